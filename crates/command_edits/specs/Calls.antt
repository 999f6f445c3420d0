-- WHAT EACH CALL ON A NAME OR A FILE MAKES OF A VOLUME, with its bill and the bits in memory before and after it. Each record says what
-- changed; all else is kept by `Edited`, by which calls in turn are one.
use Rattle.std.specs.Prelude.{◌≡◌, ◌≤◌, ◌&&◌, ℕ, Bool, List, [], ◌∷◌, unwrap_or, Option, Some, None, is_some, IsTrue}
use Rattle.list_laws.specs.SameItems.{SameItems}
use Rattle.ntfs_def.specs.FileName.{FileName, Link, link_of, name_in}
use Rattle.ntfs_def.specs.Node.{Item}
use Rattle.ntfs_def.specs.StandardInformation.{standard_security, standard_times}
use Rattle.ntfs_def.specs.declared.kinds.TheConstants.{STANDARD_INFORMATION}
use Rattle.ntfs_def.specs.declared.records.TheConstants.{FIRST_ORDINARY}
use Rattle.volume_def.specs.FileNames.{names_of}
use Rattle.volume_def.specs.Files.{parts, parts_at, record_on, records_of}
use Rattle.volume_def.specs.View.{VolumeView}
use Rattle.tree_model.specs.Bill.{has_short_standard}
use Rattle.tree_model.specs.Effects.{new_node}
use Rattle.tree_model.specs.Reading.{node_at, standard_flags, standard_of}
use Rattle.tree_model.specs.declared.tree.Node.{Node}
use Rattle.edit_def.specs.Account.{Wants, Within, also, nothing}
use Rattle.edit_def.specs.Edited.{Edited}
use Rattle.edit_def.specs.Items.{ChangesItems, HasItems, IsCurrent}
use Rattle.edit_def.specs.Kept.{Told, either, same_key, told_names}
use Rattle.edit_def.specs.Marks.{Marks}
use Rattle.edit_def.specs.Names.{ComesUnnamed, GetsName, GoesUnnamed, KeepsNames, KeepsOthers, LosesName, Numbers, numbers_at}
use Rattle.session_def.specs.Kept.{KeepsStandard}
use Rattle.command_edits.specs.Keys.{is_index_key_of, is_key_of, is_name_key_of, no_key, standard_key}

-- a name as directories know it, with the reference of its file
abbrev pub link_with : ℕ → ℕ → FileName → Link
link_with f sequence name = record { file = record { number = f; sequence = sequence }; name = name }

-- the $FILE_NAME of this name
abbrev pub IsOfName : Told → FileName → Type 0
IsOfName told name = name_in (unwrap_or told.value []) ≡ name

-- THE CALLS OF DIRECTORIES. Indexes that are not named keep their items.

-- A file gets a name, and the name's directory an entry for it, which tells what the file does. All other names keep their values.
pub record AddsLink (wants : Wants) (old new : VolumeView) (before after : Marks) (f : ℕ) (name : FileName) : Type 0 where
  pub edited : Edited (either (is_name_key_of f) (is_index_key_of name.parent.number)) wants old new before after
  pub gets : GetsName (records_of old) (records_of new) f name
  pub value : Told
  pub value_name : IsOfName value name
  pub values : SameItems (value ∷ told_names old f) (told_names new f)
  pub item : Item
  pub link : link_of item ≡ link_with f gets.was.sequence name
  pub entry : ChangesItems old new name.parent.number [] (item ∷ [])
  pub current : IsCurrent new f item.key

-- It loses a name, and the directory the entry.
pub record DropsLink (wants : Wants) (old new : VolumeView) (before after : Marks) (f : ℕ) (name : FileName) : Type 0 where
  pub edited : Edited (either (is_name_key_of f) (is_index_key_of name.parent.number)) wants old new before after
  pub loses : LosesName (records_of old) (records_of new) f name
  pub value : Told
  pub value_name : IsOfName value name
  pub values : SameItems (value ∷ told_names new f) (told_names old f)
  pub item : Item
  pub link : link_of item ≡ link_with f loses.was.sequence name
  pub entry : ChangesItems old new name.parent.number (item ∷ []) []

-- The entry of a name tells anew what its file does.
pub record RefreshesEntry (wants : Wants) (old new : VolumeView) (before after : Marks) (f : ℕ) (name : FileName) : Type 0 where
  pub edited : Edited (is_index_key_of name.parent.number) wants old new before after
  pub names_kept : (g : ℕ) → KeepsNames (records_of old) (records_of new) g
  pub was : Item
  pub now : Item
  pub sequence : ℕ
  pub link : link_of was ≡ link_with f sequence name
  pub same : link_of now ≡ link_of was
  pub entry : ChangesItems old new name.parent.number (was ∷ []) (now ∷ [])
  pub current : IsCurrent new f now.key

-- THE CALLS ON A FILE.

-- A file comes without a name, as this node; a directory has an empty index.
pub record MakesNode (wants : Wants) (old new : VolumeView) (before after : Marks) (f : ℕ) (directory : Bool) (node : Node) : Type 0 where
  pub edited : Edited (is_key_of f) wants old new before after
  pub ordinary : FIRST_ORDINARY ≤ f
  pub unused : record_on old f ≡ None
  pub sequence : ℕ
  pub comes : ComesUnnamed (records_of old) (records_of new) f (record { sequence = sequence; links = 0; directory = directory })
  pub node_is : node_at new f ≡ Some node
  pub index : IsTrue directory → HasItems new f []

-- One goes that has no name any more, with all its records and clusters.
pub record DropsNode (wants : Wants) (old new : VolumeView) (before after : Marks) (f : ℕ) : Type 0 where
  pub edited : Edited (is_key_of f) wants old new before after
  pub was : Numbers
  pub goes : GoesUnnamed (records_of old) (records_of new) f was
  pub none : parts (records_of new) f ≡ []

-- It has these times and flags, and this security id where one is given, by which a short value is lengthened. What the tree does not show
-- of its $STANDARD_INFORMATION stays.
pub record SetsNode (wants : Wants) (old new : VolumeView) (before after : Marks) (f : ℕ) (times : List ℕ) (flags : ℕ)
    (security : Option ℕ) : Type 0 where
  pub edited : Edited (same_key (standard_key f)) wants old new before after
  pub names_kept : (g : ℕ) → KeepsNames (records_of old) (records_of new) g
  pub times_now : standard_times (standard_of (parts (records_of new) f)) ≡ times
  pub flags_now : standard_flags (standard_of (parts (records_of new) f)) ≡ flags
  pub security_now : standard_security (standard_of (parts (records_of new) f))
      ≡ unwrap_or security (standard_security (standard_of (parts (records_of old) f)))
  pub standard : KeepsStandard (is_some security && has_short_standard old f) (parts_at old f STANDARD_INFORMATION [])
      (parts_at new f STANDARD_INFORMATION [])

-- CALLS IN TURN.

-- Entries of names are told anew, each of a file. That takes no room.
abbrev pub RefreshesEntries : List (ℕ × FileName) → VolumeView → VolumeView → Marks → Marks → Type 0
RefreshesEntries [] old new before after = (new ≡ old) × (after ≡ before)
RefreshesEntries (link ∷ links) old new before after =
    (mid : VolumeView) × (between : Marks) × RefreshesEntry nothing old mid before between link.0 link.1
    × RefreshesEntries links mid new between after

-- A file loses names.
abbrev pub DropsLinks : ℕ → List FileName → Wants → VolumeView → VolumeView → Marks → Marks → Type 0
DropsLinks f [] wants old new before after = (new ≡ old) × (after ≡ before)
DropsLinks f (name ∷ gone) wants old new before after =
    (first : Wants) × (rest : Wants) × Within (also first rest) wants × (mid : VolumeView) × (between : Marks)
    × DropsLink first old mid before between f name × DropsLinks f gone rest mid new between after

-- WHAT THE CALLS OF NAMES ARE MADE OF.

-- A $FILE_NAME comes into a file, which does not count it yet.
pub record ComesName (old new : VolumeView) (f : ℕ) (name : FileName) : Type 0 where
  pub others : KeepsOthers (records_of old) (records_of new) f
  pub numbers : numbers_at (records_of new) f ≡ numbers_at (records_of old) f
  pub names : SameItems (name ∷ names_of (records_of old) f) (names_of (records_of new) f)
  pub value : Told
  pub value_name : IsOfName value name
  pub values : SameItems (value ∷ told_names old f) (told_names new f)

pub record AddsName (wants : Wants) (old new : VolumeView) (before after : Marks) (f : ℕ) (name : FileName) : Type 0 where
  pub edited : Edited (is_name_key_of f) wants old new before after
  pub comes : ComesName old new f name

-- One goes that the file counts still: the same backwards.
pub record DropsName (wants : Wants) (old new : VolumeView) (before after : Marks) (f : ℕ) (name : FileName) : Type 0 where
  pub edited : Edited (is_name_key_of f) wants old new before after
  pub goes : ComesName new old f name

-- A file counts so many links.
pub record SetsLinks (wants : Wants) (old new : VolumeView) (before after : Marks) (f links : ℕ) : Type 0 where
  pub edited : Edited no_key wants old new before after
  pub others : KeepsOthers (records_of old) (records_of new) f
  pub was : Numbers
  pub was_at : numbers_at (records_of old) f ≡ Some was
  pub now_at : numbers_at (records_of new) f ≡ Some (record was { links = links })
  pub names : SameItems (names_of (records_of old) f) (names_of (records_of new) f)

-- The index of a directory alone changes.
pub record ChangesIndex (wants : Wants) (old new : VolumeView) (before after : Marks) (directory : ℕ) (was now : List Item) : Type 0 where
  pub edited : Edited (is_index_key_of directory) wants old new before after
  pub names_kept : (g : ℕ) → KeepsNames (records_of old) (records_of new) g
  pub entry : ChangesItems old new directory was now

-- What the $STANDARD_INFORMATION of a new file tells: this moment four times, the flags of a new node, and the id.
pub record IsNewStandard (directory : Bool) (now security : ℕ) (standard : List ℕ) : Type 0 where
  pub times : standard_times standard ≡ now ∷ now ∷ now ∷ now ∷ []
  pub flags : standard_flags standard ≡ (new_node directory now security).flags
  pub id : standard_security standard ≡ security
