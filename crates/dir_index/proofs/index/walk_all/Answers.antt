use Rattle.std.proofs.Common.{ℕ, sym, subst}
use Rattle.ntfs_def.specs.Node.{node_in}
use Rattle.ntfs_def.specs.declared.index.NodeForm.{NodeForm}
use Rattle.ntfs_def.specs.declared.index.NodeForm.TheVariants.{Names}
use Rattle.index_store.specs.Search.{nodes_of}
use Rattle.index_store.specs.Walk.{HasWalk, IsWalk}
use Rattle.index_store.specs.Mft.{view}
use Rattle.index_store.specs.Index.{index_held}
use Rattle.index_store.proofs.ToldLaws.{records-told, told-records}
use Rattle.index_store.specs.IndexBlocks.{records_found}
use Rattle.dir_index.proofs.index.walk_all.Goals as goal

pub walk-requires-clause-index : goal.walk-requires-clause-index
walk-requires-clause-index g c r e =
    let volume = view g.D.Disk c.args.mft.now in
    let index = c.args.index in
    let root = index.root.now in
    let (told, is) = told-records volume (index_held c.args.file.now index.name.now) r e in
    subst (λ (form : NodeForm). HasWalk (nodes_of form r) (node_in form root)) (sym c.new-names.ensures.form)
    (subst (λ (rs : ℕ → _). HasWalk (nodes_of Names rs) (node_in Names root)) is (c.requires.walk told))

pub returns-in-Ok-clause-walked : goal.returns-in-Ok-clause-walked
returns-in-Ok-clause-walked g c told =
    let volume = view g.D.Disk c.args.mft.now in
    let index = c.args.index in
    let root = index.root.now in
    let r = records_found volume c.args.file.now index in
    let walked = c.in-Ok.ensures.walked r (records-told volume (index_held c.args.file.now index.name.now) told) in
    subst (λ (form : NodeForm). IsWalk (nodes_of form r) (node_in form root) c.in-Ok.entries.items) c.new-names.ensures.form walked
