use Rattle.std.proofs.Common.{◌∙◌}
use Rattle.record_bytes.proofs.NewRecordLaws.{AddsPart-value}
use Rattle.volume_format.proofs.record_blocks.begin.Goals as goal

pub returns-clause-new : goal.returns-clause-new
returns-clause-new c =
    let standard = AddsPart-value _ _ _ _ _ _ c.standard_value.ensures c.in_ok-add_value.ensures.adds in
    let name = AddsPart-value _ _ _ _ _ _ (c.deref.ensures.value ∙ c.in_ok-name.ensures.value) c.in_ok-add_value-2.ensures.adds in
    name c.args.start.number _ (standard c.args.start.number _ c.blank.ensures.new)
