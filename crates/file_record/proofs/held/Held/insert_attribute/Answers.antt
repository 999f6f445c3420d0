use Rattle.std.proofs.Common.{◌+◌, ap, subst, sym, ◌∙◌, arith}
use Rattle.ntfs_def.specs.Shape.{HasShape}
use Rattle.ntfs_def.proofs.AttributeLaws.{length-attributes}
use Rattle.file_record.proofs.HeldLaws.{Held-few}
use Rattle.file_record.proofs.held.Held.insert_attribute.Goals as goal

pub invariant_of-self : goal.invariant_of-self
invariant_of-self c =
    let one = c.args.self.now in
    let puts = c.insert_in.ensures in
    record { shape = subst (HasShape _) (puts.one_more ∙ ap (λ n. n + 1) (length-attributes one.block one.count one.shape)) puts.shape }

pub insert_in-requires-clause-shape : goal.insert_in-requires-clause-shape
insert_in-requires-clause-shape c =
    let one = c.args.self.now in
    subst (HasShape one.block) (sym (length-attributes one.block one.count one.shape)) one.shape

pub overflow_add-self : goal.overflow_add-self
overflow_add-self c = omega (arith, Held-few c.args.self.now)
