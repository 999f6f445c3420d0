-- A file's times and DOS flags set: in its $STANDARD_INFORMATION, and in every entry that repeats them.
use Rattle.std.specs.Prelude.{◌≡◌, ℕ, List, [], ◌∷◌}
use Rattle.ntfs_def.specs.FileName.{FileName}
use Rattle.volume_def.specs.FileNames.{names_of}
use Rattle.volume_def.specs.Files.{records_of}
use Rattle.volume_def.specs.View.{VolumeView}
use Rattle.dir_index.specs.declared.entry.DuplicatedInformation.{DuplicatedInformation}
use Rattle.dir_index.specs.Refreshed.{RefreshesEntry}
use Rattle.dir_index.specs.Standard.{SetsStandard}
use Rattle.entry_edits.specs.Told.{IsToldOf}

-- ONE NAME AFTER ANOTHER was told anew.
abbrev pub RefreshesNames : DuplicatedInformation → VolumeView → VolumeView → List FileName → Type 0
RefreshesNames told old new [] = new ≡ old
RefreshesNames told old new (name ∷ names) =
    (mid : VolumeView) × RefreshesEntry old mid name.parent.number name.units told × RefreshesNames told mid new names

-- THE FILE HAS THESE TIMES AND FLAGS: in its $STANDARD_INFORMATION, and in the entries of all of its names.
pub record SetsAttributes (old new : VolumeView) (f : ℕ) (times : List ℕ) (flags : ℕ) : Type 0 where
  pub mid : VolumeView
  pub sets : SetsStandard old mid f times flags
  pub told : DuplicatedInformation
  pub shows : IsToldOf mid f told
  pub refreshes : RefreshesNames told mid new (names_of (records_of mid) f)
