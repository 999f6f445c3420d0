use Rattle.std.proofs.Common.{◌≡◌, ◌<◌, ◌+◌, ◌*◌, ℕ, get_or}
use Rattle.vol_bytes.specs.Field.{u16_at}
use Rattle.check_dirs.proofs.file.has_letters.Given as goal

abbrev pub invariant-loop-i : goal.invariant-loop-i
invariant-loop-i l = (k : ℕ) → k < l.i → u16_at l.key (0x42 + 2 * k) ≡ get_or l.letters k 0
