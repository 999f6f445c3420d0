-- WHAT WHOLE COMMANDS KEEP of directories, and what they tell anew there.
use Rattle.std.specs.Prelude.{◌≡◌, ◌==◌, ◌&&◌, ◌||◌, ℕ, Bool, true, false, List, [], ◌∷◌, filter, not, Contains}
use Rattle.std.specs.Str.{bytes_eq}
use Rattle.list_laws.specs.SameItems.{SameItems}
use Rattle.ntfs_def.specs.FileName.{FileName, key_units}
use Rattle.ntfs_def.specs.Node.{Item}
use Rattle.volume_def.specs.Files.{records_of}
use Rattle.volume_def.specs.IndexesClause.{IsDirectoryIndex}
use Rattle.volume_def.specs.View.{VolumeView}
use Rattle.tree_model.specs.Hidden.{is_hidden}
use Rattle.edit_def.specs.Items.{HasItems, IsCurrent}
use Rattle.session_def.specs.Kept.{file_in}
use Rattle.session_def.specs.Named.{is_one_of}

-- The entries of all other files are there still, as they were.
abbrev pub KeepsOtherEntries : List ℕ → VolumeView → VolumeView → ℕ → Type 0
KeepsOtherEntries files old new directory = (items : List Item) → HasItems old directory items
    → (next : List Item) × HasItems new directory next
    × SameItems (filter (λ item. not (is_one_of files (file_in item))) items) (filter (λ item. not (is_one_of files (file_in item))) next)

-- the names that are told anew are of these files
abbrev pub AreEntriesOf : List ℕ → List (ℕ × FileName) → Type 0
AreEntriesOf files entries = (entry : ℕ × FileName) → Contains entries entry → is_one_of files entry.0 ≡ true

-- The directory has a right index, and the entries of its names that `told` has, of files that are shown, tell what their files do.
pub record EntriesCurrent (told : List ℕ → Bool) (view : VolumeView) (directory : ℕ) : Type 0 where
  pub right : IsDirectoryIndex view directory
  pub current : (item : Item) → Contains right.items item → told (key_units item.key) ≡ true
      → is_hidden (records_of view) (file_in item) ≡ false → IsCurrent view (file_in item) item.key

-- the names of a directory that were told anew in turn, beside others
abbrev pub is_told : List (ℕ × FileName) → ℕ → (List ℕ → Bool) → List ℕ → Bool
is_told [] directory told = told
is_told (entry ∷ entries) directory told =
    is_told entries directory (λ units. told units || ((entry.1.parent.number == directory) && bytes_eq units entry.1.units))
