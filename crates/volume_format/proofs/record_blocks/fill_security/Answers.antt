use Rattle.std.proofs.Common.{ap, ◌∙◌}
use Rattle.volume_format.proofs.StreamParts.{AddsPart-at}
use Rattle.record_bytes.proofs.NewRecordLaws.{AddsPart-value}
use Rattle.volume_format.specs.Plan.{root_value}
use Rattle.volume_format.proofs.record_blocks.fill_security.Goals as goal

pub returns : goal.returns
returns c =
    let stream = AddsPart-at _ _ _ _ c.args.places.now _ _ _ c.security_at-at.ensures.at c.in_ok-add_item.ensures.adds in
    let hashes = AddsPart-value _ _ _ _ _ _
    (ap (root_value c.args.places.now 0 0x12 0) (c.deref.ensures.value ∙ c.in_ok-hashes.ensures.entries)) c.in_ok-add_root.ensures.adds in
    let ids = AddsPart-value _ _ _ _ _ _
    (ap (root_value c.args.places.now 0 0x10 0) (c.deref-2.ensures.value ∙ c.in_ok-ids.ensures.entries)) c.in_ok-add_root-2.ensures.adds in
    ids 9 _ (hashes 9 _ (stream 9 _ c.in_ok-begin_file.ensures.new))
