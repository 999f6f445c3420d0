use Rattle.std.proofs.Common.{◌≡◌}
use Rattle.ntfs_def.specs.Node.{entry_place, first_entry}
use Rattle.index_puts.proofs.bytes.behind_place.Given as goal

abbrev pub invariant-loop-k : goal.invariant-loop-k
invariant-loop-k l = record { place : l.at ≡ entry_place l.block (first_entry l.block) l.k }
