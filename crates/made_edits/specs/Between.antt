-- BETWEEN THE CALLS OF `create` and `mkdir`: where the flag of the record is stored, and where the file has come with its name and its
-- directory has no entry yet.
use Rattle.std.specs.Prelude.{◌≡◌, ◌≢◌, ℕ, Bool, List, [], ◌∷◌}
use Rattle.ntfs_def.specs.declared.kinds.TheConstants.{FILE_NAME}
use Rattle.record_bytes.specs.AttributeBytes.{part}
use Rattle.volume_def.specs.CaseClause.{case_parts, volume_fold}
use Rattle.volume_def.specs.Files.{Part, Value, parts, records_of}
use Rattle.volume_def.specs.Table.{cluster_bytes}
use Rattle.volume_def.specs.Values.{value_on}
use Rattle.volume_def.specs.View.{VolumeView}
use Rattle.edit_def.specs.Items.{KeepsItems}
use Rattle.edit_def.specs.Marks.{Marks}
use Rattle.record_edits.specs.Between.{IsReady}
use Rattle.in_place.specs.Unnamed.{LiesApart}
use Rattle.root_puts.specs.NewFiles.{standard_part}
use Rattle.made_edits.specs.Comes.{body_kind, body_name, body_value}
use Rattle.made_edits.specs.Left.{Leaves, is_row_key}

-- THE FLAG IS STORED: the volume stands as between two calls, with the records that it had, and the file has no part.
pub record IsFlagged (old new : VolumeView) (marks : Marks) (n : ℕ) : Type 0 where
  pub ready : IsReady new marks
  pub apart : LiesApart new
  pub records : records_of new ≡ records_of old
  pub none : parts (records_of new) n ≡ []

-- the body of the new file as its part
abbrev pub body_part : Bool → ℕ → ℕ → Part
body_part directory size n = part n (body_kind directory) (body_name directory) 1 (Value (body_value directory size))

-- the parts of the new file, in order
abbrev pub new_parts : Bool → ℕ → ℕ → List ℕ → List ℕ → List Part
new_parts directory size n standard key =
    standard_part n 0 standard ∷ part n FILE_NAME [] 2 (Value key) ∷ body_part directory size n ∷ []

-- THE FILE HAS COME: the volume stands as between two calls, with these bits in memory, and its clusters lie apart; names are compared as
-- before, and all other files have the parts that they had, and their indexes the items.
pub record HasNewFile (directory : Bool) (old new : VolumeView) (marks : Marks) (n dir : ℕ) (standard key : List ℕ) : Type 0 where
  pub ready : IsReady new marks
  pub apart : LiesApart new
  pub leaves : Leaves is_row_key n old new
  pub own : parts (records_of new) n ≡ new_parts directory (cluster_bytes old.layout) n standard key
  pub other : dir ≢ n
  pub parent : parts (records_of new) dir ≡ parts (records_of old) dir
  pub items : (g : ℕ) → g ≢ n → KeepsItems old new g
  pub case_table : value_on new (case_parts new) ≡ value_on old (case_parts old)
  pub fold : volume_fold new ≡ volume_fold old
