use Rattle.std.proofs.Common.{subst, sym, ◌∙◌}
use Rattle.ntfs_def.specs.Shape.{HasShape}
use Rattle.ntfs_def.proofs.AttributeLaws.{length-attributes}
use Rattle.file_record.proofs.held.Held.set_sizes.Goals as goal

pub invariant_of-self : goal.invariant_of-self
invariant_of-self c =
    let one = c.args.self.now in
    let set = c.set_sizes_in.ensures in
    let count = set.changes.as_many ∙ length-attributes one.block one.count one.shape in
    record { shape = subst (HasShape _) count set.changes.shape }

pub set_sizes_in-requires-clause-shape : goal.set_sizes_in-requires-clause-shape
set_sizes_in-requires-clause-shape c =
    let one = c.args.self.now in
    subst (HasShape one.block) (sym (length-attributes one.block one.count one.shape)) one.shape
