use Rattle.std.proofs.Common.{◌≡◌, ◌-◌, length, subst, sym, arith}
use Rattle.ntfs_def.specs.Attribute.{attributes}
use Rattle.ntfs_def.specs.Shape.{HasShape}
use Rattle.ntfs_def.proofs.AttributeLaws.{length-attributes}
use Rattle.file_record.proofs.held.Held.remove_attribute.Goals as goal

pub invariant_of-self : goal.invariant_of-self
invariant_of-self c =
    let one = c.args.self.now in
    let takes = c.remove_in.ensures in
    let count : length (attributes c.remove_in.new.block) ≡ one.count - 1 =
    omega (arith, takes.one_less, length-attributes one.block one.count one.shape) in
    record { shape = subst (HasShape _) count takes.shape }

pub remove_in-requires-clause-shape : goal.remove_in-requires-clause-shape
remove_in-requires-clause-shape c =
    let one = c.args.self.now in
    subst (HasShape one.block) (sym (length-attributes one.block one.count one.shape)) one.shape

pub overflow_sub-self : goal.overflow_sub-self
overflow_sub-self c =
    let one = c.args.self.now in
    omega (arith, c.requires, length-attributes one.block one.count one.shape)
