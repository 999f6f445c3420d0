use Rattle.volume_format.specs.NodeBlock.{blank_node}
use Rattle.volume_format.proofs.root.blank_node.Goals as goal

pub returns : goal.returns
unfolding blank_node
returns c = c.put_front.ensures
