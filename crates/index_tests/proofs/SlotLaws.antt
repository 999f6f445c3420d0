-- Records that tell nothing.
use Rattle.std.proofs.Common.{Option, None}
use Rattle.index_node.specs.EditBlocks.{Edits, Records}
use Rattle.list_laws.proofs.OptionLaws.{none_other}

-- any edit of them is one, since nothing is told before it and after it
pub untold : (Change : Records → Records → Type 0) → Edits None None Change
untold Change = record { back = λ after e. absurd (none_other e); on = λ r e. absurd (none_other e) }
