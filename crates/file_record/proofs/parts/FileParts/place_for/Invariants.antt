use Rattle.std.proofs.Common.{◌<◌, ◌≤◌, ℕ, get_or}
use Rattle.file_record.specs.declared.held.Held.{Held}
use Rattle.file_record.proofs.parts.FileParts.place_for.Given as goal

abbrev pub invariant-loop-place : goal.invariant-loop-place
invariant-loop-place l = (k : ℕ) (d : Held) → k < l.place → (get_or l.self.held.items k d).number ≤ l.number
