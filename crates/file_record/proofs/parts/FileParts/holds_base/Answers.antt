use Rattle.std.proofs.Common.{refl}
use Rattle.file_record.specs.Held.{held_of}
use Rattle.file_record.proofs.ExtensionLaws.{item-there}
use Rattle.file_record.proofs.LinkLaws.{base-held_at}
use Rattle.file_record.proofs.parts.FileParts.holds_base.Goals as goal

pub returns-in-Some : goal.returns-in-Some
returns-in-Some c =
    let file = c.args.self.now in
    let there = item-there (held_of file) c.in-Some.field-0 c.in-Some.ensures.inside in
    (λ yes. base-held_at file c.in-Some.field-0 c.in-Some.ensures.inside c.in-Some.ensures.base there.0 there.1, λ base. refl)
