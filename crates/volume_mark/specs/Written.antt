-- A record that was written with another value of one attribute.
use Rattle.std.specs.Prelude.{◌≡◌, ◌⊎◌, ℕ, List, false}
use Rattle.ntfs_def.specs.Attribute.{Attribute}
use Rattle.ntfs_def.specs.declared.records.TheConstants.{UPCASE, VOLUME}
use Rattle.volume_def.specs.Coverage.{IsOutsideTable}
use Rattle.volume_def.specs.Files.{part_of}
use Rattle.volume_def.specs.Looked.{IsLookedAt}
use Rattle.volume_def.specs.VersionClause.{HasVersion}
use Rattle.volume_def.specs.View.{VolumeView}
use Rattle.tree_model.specs.Hidden.{is_system}
use Rattle.volume_edits.specs.Quiet.{RewritesValue}
use Rattle.volume_edits.specs.Rewritten.{RewritesRecord}
use Rattle.volume_mark.specs.Shown.{IsOwnedBy}

-- A record was written with another value of one attribute, of which no clause asks more than its length.
pub record WritesValue (old new : VolumeView) (n : ℕ) (stored : List ℕ) (was now : Attribute) : Type 0 where
  pub record_is : RewritesRecord old new n stored was now
  pub rewrites : RewritesValue (part_of n was) (part_of n now)
  pub version : n ≡ VOLUME → HasVersion stored

-- No cluster at which a clause or the reading looks lies in the table or its mirror: so it is on a sound volume.
pub record LooksOutside (view : VolumeView) : Type 0 where
  pub looked : (c : ℕ) → IsLookedAt view c → IsOutsideTable view.layout c
  pub shown : (f : ℕ) → (is_system f ≡ false) ⊎ (f ≡ UPCASE) → (c : ℕ) → IsOwnedBy view f c → IsOutsideTable view.layout c
