use Rattle.std.proofs.Common.{◌≡◌, ◌<◌, ◌+◌, ℕ, false}
use Rattle.volume_def.specs.ExtentsClause.{AreAttribute}
use Rattle.volume_def.specs.Values.{spot_at}
use Rattle.attr_view.specs.View.{attribute_of}
use Rattle.attr_store.specs.Sought.{parts_held_like}
use Rattle.index_store.specs.IndexRecords.{is_hole}
use Rattle.index_store.proofs.index_record.are_placed.Given as goal

-- no cluster that was looked at lies in a hole
abbrev pub invariant-loop-k : goal.invariant-loop-k
invariant-loop-k l =
    (size f : ℕ) → AreAttribute size f (parts_held_like l.file (attribute_of l.stream))
    → (j : ℕ) → j < l.k → is_hole (spot_at (parts_held_like l.file (attribute_of l.stream)) (l.vcn + j)) ≡ false
