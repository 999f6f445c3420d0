-- Where a run stands as to the mark, and what closing leaves.
use Rattle.std.specs.Prelude.{◌≡◌, ◌+◌, ◌≤◌, ℕ, List, [], ◌∷◌, Bool, true, false, Option, Some, None}
use Rattle.vol_disk.specs.Contents.{sector_in}
use Rattle.volume_def.specs.VersionClause.{IsClean}
use Rattle.volume_def.specs.View.{VolumeView}
use Rattle.session_def.specs.Done.{HasEmptyLog}
use Rattle.session_def.specs.State.{State}
use Rattle.mark_write.specs.declared.flag.Flag.{Flag}
use Rattle.mark_write.specs.Flags.{IsSet}
use Rattle.volume_mark.specs.Mark.{IsAcceptedAs, IsCleared, IsFlagOf}

-- The volume is marked by this flag: it is the first image's, it lies there still, and it is set. Its log is empty.
pub record IsMarkedBy (first : VolumeView) (state : State) (flag : Flag) : Type 0 where
  pub of_first : IsFlagOf first flag
  pub here : IsFlagOf state.view flag
  pub set : IsSet flag (sector_in (Some state.image))
  pub log : HasEmptyLog state.view

-- Until an edit was done the volume is the one on which the run began, and clean.
abbrev pub MarkStands : VolumeView → State → Option Flag → Type 0
MarkStands first state None = (state.view ≡ first) × IsClean state.view
MarkStands first state (Some flag) = IsMarkedBy first state flag

-- the final bytes, and what is settled of them behind the images of the lines: a volume that was marked is closed
abbrev pub AreFinal : VolumeView → List ℕ → Bool → List ℕ → List (List ℕ) → Type 0
AreFinal first image true bytes finals = IsCleared first image bytes × (finals ≡ bytes ∷ [])
AreFinal first image false bytes finals = (bytes ≡ image) × (finals ≡ [])

-- What any other end leaves.
pub record Closes (first : VolumeView) (last : State) (marked : Bool) (finals : List (List ℕ)) (now : Option (List ℕ)) : Type 0 where
  pub bytes : List ℕ
  pub are : now ≡ Some bytes
  pub final : AreFinal first last.image marked bytes finals
  pub accepted : IsAcceptedAs last.machine.tree bytes

-- how many sectors closing wrote: those of the flag, where the volume was marked
abbrev pub CountsClosing : Bool → ℕ → ℕ → Type 0
CountsClosing true last now = now ≤ last + 2
CountsClosing false last now = now ≡ last
