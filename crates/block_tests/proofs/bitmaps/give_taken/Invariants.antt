use Rattle.std.proofs.Common.{◌≡◌, ℕ, ◌<◌, ◌≤◌, true, Some}
use Rattle.std.specs.Prelude.{slice_get}
use Rattle.block_tests.proofs.bitmaps.give_taken.Given as goal

abbrev pub invariant-flags : goal.invariant-flags
invariant-flags l = (k : ℕ) → l.at ≤ k → k < l.k → slice_get l.bits k ≡ Some true
