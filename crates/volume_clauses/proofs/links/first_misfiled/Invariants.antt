use Rattle.std.proofs.Common.{◌<◌, ℕ}
use Rattle.record_notes.specs.Heads.{head_at}
use Rattle.volume_clauses.specs.Links.{IsFiled}
use Rattle.volume_clauses.specs.Marks.{is_found, mark_at}
use Rattle.volume_clauses.specs.Tallies.{tally_at}
use Rattle.volume_clauses.proofs.links.first_misfiled.Given as goal

abbrev pub invariant-loop-f : goal.invariant-loop-f
invariant-loop-f l = (k : ℕ) → k < l.f → IsFiled k (head_at l.heads k) (tally_at l.tallies k) (is_found (mark_at l.marks k))
