use Rattle.std.proofs.Common.{ℕ, List, Option, length, sym, subst, ◌∙◌, arith, true≢false}
use Rattle.std.specs.Prelude.{IfSome, IsTrue}
use Rattle.ntfs_def.specs.Node.{short_node}
use Rattle.ntfs_def.specs.declared.index.NodeForm.TheVariants.{Names}
use Rattle.index_tree.specs.Edit.{short_nodes}
use Rattle.index_tree.proofs.EditMemory.{apart_of, edits_after, is_some_of}
use Rattle.index_tree.proofs.OrderLaws.{is_order}
use Rattle.list_laws.proofs.OptionLaws.{ok-weaker}
use Rattle.index_puts.specs.declared.leaf.Leaf.{Leaf}
use Rattle.index_puts.specs.Leaf.{EndsIn, ReadsLeaf, room_under}
use Rattle.tree_model.specs.LeafRoom.{leaf_of}
use Rattle.index_puts.proofs.BytesLaws.{key_fits}
use Rattle.index_puts.proofs.PutSteps.{puts_in}
use Rattle.index_puts.proofs.RoomLaws.{leaf_fits, leaf_missing}
use Rattle.index_puts.proofs.put.put_in_leaf.Goals as goal

pub key_of-requires : goal.key_of-requires
key_of-requires g c = key_fits c.args.entry.now c.requires.entry.one

pub returns-in_default-clause-put : goal.returns-in_default-clause-put
returns-in_default-clause-put g c =
    let order = g.C.Collation.order c.args.order.now in
    let side : List ℕ → List ℕ → _ = λ key x. order x key in
    let root = short_node Names c.args.root.now in
    let block = c.find_leaf.new.block in
    record {
      back = λ r told. (r, sym c.in_ok-leaf.ensures.records ∙ told);
      on = λ r told.
          let reads = subst (λ (leaf : Option Leaf). ReadsLeaf r (leaf_of (side c.key_of.result.now) (short_nodes Names r) root) leaf block)
          c.in_default.is (c.in_ok-leaf.ensures.leaf r told) in
          let room = subst (λ key. IsTrue (room_under (side key) r root (length c.args.entry.now))) (sym c.key_of.ensures)
          (c.requires.room r told) in
          absurd (leaf_missing (side c.key_of.result.now) r root block (length c.args.entry.now) reads room);
    }

pub write-requires-clause-there : goal.write-requires-clause-there
write-requires-clause-there g c = λ r told.
    let order = g.C.Collation.order c.args.order.now in
    let side : List ℕ → _ = λ x. order x c.key_of.result.now in
    let root = short_node Names c.args.root.now in
    let block = c.find_leaf.new.block in
    let reads = subst (λ (leaf : Option Leaf). ReadsLeaf r (leaf_of side (short_nodes Names r) root) leaf block)
    c.in-Some.is (c.in_ok-leaf.ensures.leaf r (sym c.in_ok-leaf.ensures.records ∙ told)) in
    is_some_of reads.bytes

pub write-requires-clause-opened : goal.write-requires-clause-opened
write-requires-clause-opened g c = λ r told.
    let order = g.C.Collation.order c.args.order.now in
    let side : List ℕ → _ = λ x. order x c.key_of.result.now in
    let root = short_node Names c.args.root.now in
    let block = c.find_leaf.new.block in
    let reads = subst (λ (leaf : Option Leaf). ReadsLeaf r (leaf_of side (short_nodes Names r) root) leaf block)
    c.in-Some.is (c.in_ok-leaf.ensures.leaf r (sym c.in_ok-leaf.ensures.records ∙ told)) in
    c.in-Ok.ensures.ok.opened c.in-Some.leaf.vcn
    (g.met.B.WriteBlocks.opened_records c.find_leaf.new.blocks r told c.in-Some.leaf.vcn block reads.bytes)

pub write-requires-clause-apart : goal.write-requires-clause-apart
write-requires-clause-apart g c =
    let order = g.C.Collation.order c.args.order.now in
    let ends = subst (λ (leaf : Option Leaf). IfSome leaf (EndsIn order c.key_of.result.now c.find_leaf.new.block)) c.in-Some.is
    c.in_ok-leaf.ensures.ends in
    let n = c.in-Ok.ensures.ok.node ends.place.said ends.place.is in
    apart_of Names c.insert_at.new.node (is_some_of n) (omega (arith, c.in-Ok.ensures.ok.header.len, c.find_leaf.array_long))

pub returns-in-Ok-clause-put : goal.returns-in-Ok-clause-put
returns-in-Ok-clause-put g c =
    let order = g.C.Collation.order c.args.order.now in
    let valid = g.C.Collation.valid c.args.order.now in
    let laws = is_order order (g.met.C.Collation.is_order c.args.order.now) in
    let key = c.key_of.result.now in
    let side : List ℕ → _ = λ x. order x key in
    let root = c.args.root.now in
    let block = c.find_leaf.new.block in
    let now = c.insert_at.new.node in
    let leaf = c.in-Some.leaf in
    let ends = subst (λ (leaf : Option Leaf). IfSome leaf (EndsIn order key block)) c.in-Some.is c.in_ok-leaf.ensures.ends in
    ok-weaker c.write.result (λ done writes. record {
      back = λ r' told'. let e = edits_after writes r' told' in (e.0, sym c.in_ok-leaf.ensures.records ∙ e.1);
      on = λ r told.
          let w = writes.on r (c.in_ok-leaf.ensures.records ∙ told) in
          let reads = subst (λ (leaf : Option Leaf). ReadsLeaf r (leaf_of side (short_nodes Names r) (short_node Names root)) leaf block)
          c.in-Some.is (c.in_ok-leaf.ensures.leaf r told) in (
            w.0,
            w.1,
            puts_in order valid laws c.sealed_nodes.ensures.place c.sealed_nodes.ensures.short c.args.entry.now key root block now
                c.key_of.ensures c.requires.entry c.requires.key leaf ends c.in-Ok.ensures.ok
                (omega (arith, c.in-Ok.ensures.ok.header.len, c.find_leaf.array_long)) r w.0 reads w.2,
          );
    }) c.write.ensures.done

pub returns-in-Ok-clause-edits : goal.returns-in-Ok-clause-edits
returns-in-Ok-clause-edits g c =
    g.met.B.WriteBlocks.edits_on c.args.blocks.now c.find_leaf.new.blocks c.write.new.self
    (g.met.B.WriteBlocks.edits_reads c.args.blocks.now c.find_leaf.new.blocks c.in_ok-leaf.ensures.only_reads) c.write.ensures.edits

pub returns-in-Err-clause-put : goal.returns-in-Err-clause-put
returns-in-Err-clause-put g c =
    let order = g.C.Collation.order c.args.order.now in
    let side : List ℕ → List ℕ → _ = λ key x. order x key in
    let key = c.key_of.result.now in
    let root = short_node Names c.args.root.now in
    let block = c.find_leaf.new.block in
    record {
      back = λ r told. (r, sym c.in_ok-leaf.ensures.records ∙ told);
      on = λ r told.
          let reads = subst (λ (leaf : Option Leaf). ReadsLeaf r (leaf_of (side key) (short_nodes Names r) root) leaf block)
          c.in-Some.is (c.in_ok-leaf.ensures.leaf r told) in
          let room = subst (λ key. IsTrue (room_under (side key) r root (length c.args.entry.now))) (sym c.key_of.ensures)
          (c.requires.room r told) in
          let fits = c.in-Err.ensures.fits.1 (leaf_fits (side key) r root block c.in-Some.leaf reads (length c.args.entry.now) room) in
          absurd (true≢false (sym fits));
    }
