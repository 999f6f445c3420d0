use Rattle.std.proofs.Common.{ap, ◌∙◌}
use Rattle.record_bytes.proofs.NewRecordLaws.{AddsPart-value}
use Rattle.volume_format.specs.Plan.{root_value}
use Rattle.volume_format.proofs.record_blocks.fill_extend.Goals as goal

pub returns : goal.returns
returns c =
    let names = AddsPart-value _ _ _ _ _ _
    (ap (root_value c.args.places.now 0x30 1 0) (c.deref.ensures.value ∙ c.in_ok-entries.ensures.entries)) c.in_ok-add_root.ensures.adds in
    names 11 _ c.in_ok-begin_directory.ensures.new
