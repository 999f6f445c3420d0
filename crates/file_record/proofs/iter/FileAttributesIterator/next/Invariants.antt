use Rattle.std.proofs.Common.{◌≡◌, length}
use Rattle.file_record.specs.Left.{attributes_left}
use Rattle.file_record.proofs.iter.FileAttributesIterator.next.Given as goal

abbrev pub invariant-records : goal.invariant-records
invariant-records l = attributes_left l.self ≡ attributes_left l.fn.self

abbrev pub decreases-records : goal.decreases-records
decreases-records l = length l.self.rest.now
