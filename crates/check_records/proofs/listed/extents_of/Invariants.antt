use Rattle.std.proofs.Common.{◌≡◌, map, take}
use Rattle.file_clauses.specs.Extents.{outline_of, outlined}
use Rattle.check_records.specs.Listed.{all_parts}
use Rattle.check_records.proofs.listed.extents_of.Given as goal

abbrev pub invariant-loop-record : goal.invariant-loop-record
invariant-loop-record l = map outlined l.extents.items ≡ map outline_of (all_parts (take l.record-index l.held))
