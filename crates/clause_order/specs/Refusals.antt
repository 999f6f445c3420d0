-- How a volume is refused by the first clause that fails.
use Rattle.std.specs.Prelude.{◌≡◌, ◌<◌, ℕ, Option, IsTrue}
use Rattle.volume_def.specs.Sound.{Clause, FirstBroken, HoldBelow, Meets, clause_number, rank_of}
use Rattle.volume_def.specs.View.{VolumeView}
use Rattle.list_laws.specs.Least.{IsLeastFailing}
use Rattle.mft_table.specs.declared.mount.MountNo.{MountNo}
use Rattle.mft_table.specs.declared.mount.MountNo.TheVariants as no

-- the least number that breaks the clause, or none; of a clause before which others fail nothing is said
abbrev pub DecidesFirst : Clause → VolumeView → Option ℕ → Type 0
DecidesFirst clause view first = HoldBelow view (rank_of clause) → IsLeastFailing (Meets clause view) first

-- The first clause that fails is one of those before the rank `end`: its number is k, and n the least that breaks it.
pub record IsFirstBroken (end : ℕ) (view : VolumeView) (k n : ℕ) : Type 0 where
  pub clause : Clause
  pub decided : rank_of clause < end
  pub number : clause_number clause ≡ k
  pub first : FirstBroken view clause n

-- What is said of a volume whose table was found, where the contents of the disk are told and this stands before it: it is
-- refused by one of the clauses before the rank `end`.
abbrev pub IsRefusalIf : ℕ → Type 0 → VolumeView → MountNo → Type 0
IsRefusalIf end before view (no.Refused k n) = IsTrue view.told → before → IsFirstBroken end view k n
IsRefusalIf end before view no.Dirty = ⊥
IsRefusalIf end before view no.Device = Unit {0}
IsRefusalIf end before view no.Memory = Unit {0}

-- the disk failed, or there was no memory
abbrev pub IsFault : MountNo → Type 0
IsFault (no.Refused k n) = ⊥
IsFault no.Dirty = ⊥
IsFault no.Device = Unit {0}
IsFault no.Memory = Unit {0}
