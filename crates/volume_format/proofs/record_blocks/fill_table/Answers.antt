use Rattle.volume_format.proofs.StreamParts.{AddsPart-at}
use Rattle.volume_format.proofs.record_blocks.fill_table.Goals as goal

pub returns : goal.returns
returns c =
    let records = AddsPart-at _ _ _ _ c.args.places.now _ _ _ c.table_at.ensures.at c.in_ok-add_item.ensures.adds in
    let bits = AddsPart-at _ _ _ _ c.args.places.now _ _ _ c.table_bits_at-bits_at.ensures.at c.in_ok-add_item-2.ensures.adds in
    bits 0 _ (records 0 _ c.in_ok-begin.ensures.new)
