use Rattle.record_bytes.proofs.NewRecordLaws.{AddsPart-value}
use Rattle.volume_format.proofs.record_blocks.fill_volume.Goals as goal

pub returns : goal.returns
returns c =
    let label = AddsPart-value _ _ _ _ _ _ c.label.ensures.label c.in_ok-add_value.ensures.adds in
    c.in_ok-add_value-2.ensures.adds 3 _ (label 3 _ c.in_ok-begin_file.ensures.new)
