use Rattle.std.proofs.Common.{◌≡◌, ◌+◌, ◌-◌, length, take, vec_len}
use Rattle.file_record.specs.Held.{attributes_in}
use Rattle.std.specs.List.{flat_map}
use Rattle.file_record.proofs.parts.FileParts.place_of.Given as goal

abbrev pub invariant-records : goal.invariant-records
invariant-records l = l.i ≡ length (flat_map attributes_in (take l.record l.self.held.items)) + l.left

abbrev pub decreases-records : goal.decreases-records
decreases-records l = vec_len l.self.held - l.record
