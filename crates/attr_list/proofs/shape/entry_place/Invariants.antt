use Rattle.std.proofs.Common.{◌≡◌}
use Rattle.ntfs_def.specs.AttributeList.{list_entry_place}
use Rattle.attr_list.proofs.shape.entry_place.Given as goal

abbrev pub invariant-loop-k : goal.invariant-loop-k
invariant-loop-k l = l.at ≡ list_entry_place l.bytes l.k
