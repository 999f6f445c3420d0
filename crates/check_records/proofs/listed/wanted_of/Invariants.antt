use Rattle.std.proofs.Common.{◌≡◌, map, take}
use Rattle.std.specs.Prelude.{All}
use Rattle.volume_def.specs.Files.{Records}
use Rattle.volume_def.specs.ListsClause.{entries_in}
use Rattle.attr_list.specs.View.{entry_shown}
use Rattle.check_records.specs.Listed.{IsHeldIn, all_parts}
use Rattle.check_records.proofs.listed.wanted_of.Given as goal

abbrev pub invariant-loop-record : goal.invariant-loop-record
invariant-loop-record l = (records : Records) → All (IsHeldIn records) l.held
    → map entry_shown l.wanted.items ≡ entries_in records (all_parts (take l.record-index l.held))
