use Rattle.std.proofs.Common.{rules, ◌≡◌, ℕ, ◌+◌, ◌-◌, ◌^◌, ◌≤◌, length, inl, inr, ap, subst, ◌∙◌, arith}
use Rattle.std.specs.Borrow.{Bor}
use Rattle.std.specs.Prelude.{◌⊎◌}
use Rattle.ntfs_def.specs.Node.{item_in, short_node}
use Rattle.ntfs_def.specs.declared.index.NodeForm.{NodeForm}
use Rattle.ntfs_def.specs.declared.index.NodeForm.TheVariants.{Names}
use Rattle.volume_def.specs.IndexesClause.{IndexParts}
use Rattle.index_node.specs.EditBlocks.{Edits}
use Rattle.index_store.specs.IndexTreeIndex.{form_of, order_of}
use Rattle.index_store.specs.Replace.{Replaces}
use Rattle.index_store.specs.Mft.{view}
use Rattle.index_store.specs.FileParts.{FileParts}
use Rattle.index_store.specs.declared.index.FoundIndex.{FoundIndex}
use Rattle.index_store.specs.Index.{index_held}
use Rattle.index_store.specs.IndexBlocks.{told_records}
use Rattle.dir_index.specs.Replaced.{ReplacesItem, StagesRecords}
use Rattle.dir_index.proofs.ReplacedRecords.{records-changed}
use Rattle.dir_index.proofs.replace.replace_in.Goals as goal

pub returns-in-Ok-clause-replaced : goal.returns-in-Ok-clause-replaced
returns-in-Ok-clause-replaced g c told =
    let old = view g.D.Disk c.args.mft.now in
    let new = view g.D.Disk c.replace.new.blocks.mft.now in
    let file = c.args.file.now in
    let name = c.args.index.name.now in
    let item = item_in c.args.entry.now in
    let order = g.C.Collation.order c.args.order in
    let valid = g.C.Collation.valid c.args.order in
    let edits = c.in-Ok.ensures.edits in
    let same : index_held c.replace.new.blocks.file.now c.replace.new.blocks.index.name.now ≡ index_held file name =
    ap (λ (f : Bor FileParts). index_held f.now c.replace.new.blocks.index.name.now) edits.file
    ∙ ap (λ (i : FoundIndex). index_held file i.name.now) edits.index in
    let did = subst (λ (i : IndexParts). Edits (told_records old (index_held file name)) (told_records new i)
    (Replaces (g.C.Collation.order (order_of c.new-names.result)) (g.C.Collation.valid (order_of c.new-names.result))
    (form_of c.new-names.result)
    (short_node (form_of c.new-names.result) c.args.root.now) (short_node
    (form_of c.new-names.result) c.replace.new.root) item)) same c.in-Ok.ensures.replaced in
    let by_form = subst (λ (form : NodeForm). Edits (told_records old (index_held file name)) (told_records new (index_held file name))
    (Replaces (g.C.Collation.order (order_of c.new-names.result)) (g.C.Collation.valid (order_of c.new-names.result)) form
    (short_node form c.args.root.now) (short_node form c.replace.new.root) item)) c.new-names.ensures.form did in
    let by_order = subst (λ o. Edits (told_records old (index_held file name)) (told_records new (index_held file name))
    (Replaces (g.C.Collation.order o) (g.C.Collation.valid o) Names (short_node Names c.args.root.now)
    (short_node Names c.replace.new.root) item))
    c.new-names.ensures.order by_form in
    let whole : ReplacesItem order valid old new (index_held file name) c.args.root.now c.replace.new.root item = record {
      is = records-changed old new (index_held file name)
          (Replaces order valid Names (short_node Names c.args.root.now) (short_node Names c.replace.new.root) item) by_order told;
    } in
    search rules

-- one record at most
few : (n written : ℕ) → (0 + n ≤ written) ⊎ (2 ^ 64 - 1 ≤ written) → written ≤ 0 + 1 → n ≤ 1
few n written (inl counted) once = omega (arith, counted, once)
few n written (inr most) once = absurd (omega (arith, most, once))

pub returns-in-Ok-clause-places : goal.returns-in-Ok-clause-places
returns-in-Ok-clause-places g c =
    let edits = c.in-Ok.ensures.edits in
    let whole : StagesRecords g.D.Disk 1
    (index_held c.args.file.now c.args.index.name.now).records c.args.mft.now c.replace.new.blocks.mft.now = record {
      vcns = edits.vcns;
      few = few (length edits.vcns) c.replace.new.blocks.written edits.counted c.in-Ok.ensures.written;
      places = edits.places;
    } in
    search rules

pub returns-clause-places : goal.returns-clause-places
returns-clause-places g c =
    let edits = c.in-Err.ensures.edits in
    let whole : StagesRecords g.D.Disk 1
    (index_held c.args.file.now c.args.index.name.now).records c.args.mft.now c.replace.new.blocks.mft.now = record {
      vcns = edits.vcns;
      few = few (length edits.vcns) c.replace.new.blocks.written edits.counted c.in-Err.ensures.written;
      places = edits.places;
    } in
    search rules
