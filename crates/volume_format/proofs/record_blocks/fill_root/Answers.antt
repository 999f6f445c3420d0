use Rattle.volume_format.proofs.StreamParts.{AddsPart-at}
use Rattle.volume_format.proofs.record_blocks.fill_root.Goals as goal

pub returns : goal.returns
returns c =
    let node = AddsPart-at _ _ _ _ c.args.places.now _ _ _ c.node_at-at.ensures.at c.in_ok-add_item.ensures.adds in
    c.in_ok-add_value.ensures.adds 5 _ (node 5 _ (c.in_ok-add_root.ensures.adds 5 _ c.in_ok-begin_directory.ensures.new))
