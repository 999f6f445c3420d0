use Rattle.std.proofs.Common.{subst, sym, ◌∙◌}
use Rattle.ntfs_def.specs.Shape.{HasShape}
use Rattle.ntfs_def.proofs.AttributeLaws.{length-attributes}
use Rattle.file_record.proofs.held.Held.put_in_value.Goals as goal

pub invariant_of-self : goal.invariant_of-self
invariant_of-self c =
    let one = c.args.self.now in
    let puts = c.put_in.ensures in
    record { shape = subst (HasShape _) (puts.changes.as_many ∙ length-attributes one.block one.count one.shape) puts.changes.shape }

pub put_in-requires-clause-shape : goal.put_in-requires-clause-shape
put_in-requires-clause-shape c =
    let one = c.args.self.now in
    subst (HasShape one.block) (sym (length-attributes one.block one.count one.shape)) one.shape
