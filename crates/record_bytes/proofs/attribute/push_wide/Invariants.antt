use Rattle.std.proofs.Common.{◌≡◌, ◌++◌, take}
use Rattle.ntfs_def.specs.Units.{wide}
use Rattle.record_bytes.proofs.attribute.push_wide.Given as goal

abbrev pub invariant-loop-letter : goal.invariant-loop-letter
invariant-loop-letter l = l.text.items ≡ l.fn.text.items ++ wide (take l.letter-index l.letters)
