use Rattle.std.proofs.Common.{subst, sym, ◌∙◌}
use Rattle.ntfs_def.specs.Shape.{HasShape}
use Rattle.ntfs_def.proofs.AttributeLaws.{length-attributes}
use Rattle.file_record.proofs.held.Held.replace_attribute.Goals as goal

pub invariant_of-self : goal.invariant_of-self
invariant_of-self c =
    let one = c.args.self.now in
    let puts = c.replace_in.ensures in
    record { shape = subst (HasShape _) (puts.as_many ∙ length-attributes one.block one.count one.shape) puts.shape }

pub replace_in-requires-clause-shape : goal.replace_in-requires-clause-shape
replace_in-requires-clause-shape c =
    let one = c.args.self.now in
    subst (HasShape one.block) (sym (length-attributes one.block one.count one.shape)) one.shape
