-- The clause on the table of case, S13, whose number is 10.
-- Layout: Linux-NTFS documentation, file $UpCase.
use Rattle.std.specs.Prelude.{◌≡◌, ℕ, List, [], length}
use Rattle.ntfs_def.specs.declared.kinds.TheConstants.{DATA}
use Rattle.ntfs_def.specs.declared.records.TheConstants.{UPCASE}
use Rattle.ntfs_def.specs.KeyOrder.{case_table_len, fold_of}
use Rattle.volume_def.specs.Files.{Part, parts_at}
use Rattle.volume_def.specs.Values.{IsPlain, value_on}
use Rattle.volume_def.specs.View.{VolumeView}

-- the unnamed $DATA of $UpCase
abbrev pub case_parts : VolumeView → List Part
case_parts view = parts_at view UPCASE DATA []

-- what units of names are compared as
abbrev pub volume_fold : VolumeView → ℕ → ℕ
volume_fold view = fold_of (value_on view (case_parts view))

pub record HasCaseTable (view : VolumeView) : Type 0 where
  pub plain : IsPlain (case_parts view)
  pub whole : length (value_on view (case_parts view)) ≡ case_table_len

abbrev pub MeetsCaseTable : VolumeView → ℕ → Type 0
MeetsCaseTable view n = n ≡ UPCASE → HasCaseTable view
