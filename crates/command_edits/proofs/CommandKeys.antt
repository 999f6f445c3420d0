-- COMMANDS AS ONE EDIT, with what they name and their bill.
use Rattle.std.proofs.Common.{Bool, false, true, ℕ, None, ◌==◌, ◌||◌, ◌≡◌}
use Rattle.std.proofs.lemmas.Bool.{and_right, or_from, or_parts}
use Rattle.std.specs.Prelude.{Option}
use Rattle.ntfs_def.specs.FileName.{FileName}
use Rattle.ntfs_def.specs.declared.kinds.TheConstants.{FILE_NAME}
use Rattle.volume_def.specs.FileNames.{names_of}
use Rattle.volume_def.specs.Files.{records_of}
use Rattle.volume_def.specs.View.{VolumeView}
use Rattle.tree_model.specs.Subjects.{Located, Machine}
use Rattle.tree_model.specs.Tree.{Tree}
use Rattle.tree_model.specs.declared.command.Command.{Command}
use Rattle.edit_def.specs.Account.{Wants}
use Rattle.edit_def.specs.Edited.{Edited}
use Rattle.edit_def.specs.Kept.{Key}
use Rattle.edit_def.specs.Marks.{Marks}
use Rattle.session_def.specs.Named.{has_entry_of, is_changed_key, is_directory_key, is_one_of, is_own_key, is_times_key, is_view_key, timed}
use Rattle.command_edits.specs.Commands.{DoesLink, DoesMake, DoesMove, DoesRemove, DoesSet, DoesUnlink}
use Rattle.command_edits.specs.Keys.{AreToldIn, is_command_key, is_key_of, is_name_key_of}
use Rattle.command_edits.proofs.CallKeys.{adds, all-of, both, ends, free, loses, refreshes, sets}

module _ (own : Key → Bool) (files dirs : ℕ → Bool) (m : Machine) (wants : Wants) (old new : VolumeView) (before after : Marks) where
  abbrev Whole : Type 0
  Whole = Edited (is_command_key own files dirs) wants old new before after

  names-of-all : (f : ℕ) → ((key : Key) → own key ≡ false → is_key_of f key ≡ false) → (key : Key) → own key ≡ false
      → is_name_key_of f key ≡ false
  names-of-all f all key e = and_right (key.kind == FILE_NAME) (key.file == f) (all key e)

  pub edited-make : (f : ℕ) (directory : Bool) (name : FileName) → (x : DoesMake m wants old new before after f directory name)
      → ((key : Key) → own key ≡ false → is_key_of f key ≡ false) → files name.parent.number ≡ true → dirs name.parent.number ≡ true
      → AreToldIn dirs x.ends.entries → Whole
  edited-make f directory name x all file dir told =
      ends own files dirs m.now wants old x.named.view new before x.named.marks after name.parent.number x.parent file
      (both own files dirs x.making x.adding wants old x.made.view x.named.view before x.made.marks x.named.marks x.within
      (all-of own files dirs (is_key_of f) x.making old x.made.view before x.made.marks all x.makes.edited)
      (adds own files dirs f (names-of-all f all) x.adding x.made.view x.named.view x.made.marks x.named.marks name dir x.adds)) x.ends told

  pub edited-link : (f : ℕ) (name : FileName) → (x : DoesLink m wants old new before after f name)
      → ((key : Key) → own key ≡ false → is_name_key_of f key ≡ false) → files f ≡ true → files name.parent.number ≡ true
      → dirs name.parent.number ≡ true → AreToldIn dirs x.ends.entries → Whole
  edited-link f name x names file parent dir told =
      ends own files dirs m.now wants old x.set.view new before x.set.marks after name.parent.number x.parent parent
      (free own files dirs wants wants old x.named.view x.set.view before x.named.marks x.set.marks
      (adds own files dirs f names wants old x.named.view before x.named.marks name dir x.adds)
      (sets own files dirs _ x.named.view x.set.view x.named.marks x.set.marks f _ _ None file x.stamps)) x.ends told

  pub edited-remove : (f : ℕ) (name : FileName) → (x : DoesRemove m wants old new before after f name)
      → ((key : Key) → own key ≡ false → is_key_of f key ≡ false) → files name.parent.number ≡ true → dirs name.parent.number ≡ true
      → AreToldIn dirs x.ends.entries → Whole
  edited-remove f name x all file dir told =
      ends own files dirs m.now wants old x.gone.view new before x.gone.marks after name.parent.number x.loses.parent file
      (both own files dirs x.losing x.going wants old x.left.view x.gone.view before x.left.marks x.gone.marks x.within
      (loses own files dirs f (names-of-all f all) (names_of (records_of old) f) name x.losing old x.left.view before x.left.marks dir
      x.loses.drops)
      (all-of own files dirs (is_key_of f) x.going x.left.view x.gone.view x.left.marks x.gone.marks all x.goes.edited)) x.ends told

  pub edited-unlink : (f : ℕ) (name : FileName) → (x : DoesUnlink m wants old new before after f name)
      → ((key : Key) → own key ≡ false → is_name_key_of f key ≡ false) → files f ≡ true → files name.parent.number ≡ true
      → dirs name.parent.number ≡ true → AreToldIn dirs x.ends.entries → Whole
  edited-unlink f name x names file parent dir told =
      ends own files dirs m.now wants old x.set.view new before x.set.marks after name.parent.number x.loses.parent parent
      (free own files dirs wants wants old x.left.view x.set.view before x.left.marks x.set.marks
      (loses own files dirs f names (names_of (records_of old) f) name wants old x.left.view before x.left.marks dir x.loses.drops)
      (sets own files dirs _ x.left.view x.set.view x.left.marks x.set.marks f _ _ None file x.stamps)) x.ends told

  pub edited-move : (f : ℕ) (name fresh : FileName) → (x : DoesMove m wants old new before after f name fresh)
      → ((key : Key) → own key ≡ false → is_name_key_of f key ≡ false) → files f ≡ true → files name.parent.number ≡ true
      → files fresh.parent.number ≡ true → dirs name.parent.number ≡ true → dirs fresh.parent.number ≡ true
      → AreToldIn dirs x.ends.entries → Whole
  edited-move f name fresh x names file from to from_dir to_dir told =
      ends own files dirs m.now wants old x.set.view new before x.set.marks after fresh.parent.number x.parent to
      (free own files dirs wants wants old x.named.view x.set.view before x.named.marks x.set.marks
      (both own files dirs x.losing x.adding wants old x.touched.view x.named.view before x.touched.marks x.named.marks x.within
      (free own files dirs x.losing x.losing old x.left.view x.touched.view before x.left.marks x.touched.marks
      (loses own files dirs f names (names_of (records_of old) f) name x.losing old x.left.view before x.left.marks from_dir x.loses.drops)
      (sets own files dirs _ x.left.view x.touched.view x.left.marks x.touched.marks name.parent.number _ _ None from x.touches))
      (adds own files dirs f names x.adding x.touched.view x.named.view x.touched.marks x.named.marks fresh to_dir x.adds))
      (sets own files dirs _ x.named.view x.set.view x.named.marks x.set.marks f _ _ None file x.stamps)) x.ends told

  pub edited-set : (f : ℕ) (flags security : Option ℕ) → (x : DoesSet m wants old new before after f flags security) → files f ≡ true
      → AreToldIn dirs x.entries → Whole
  edited-set f flags security x file told =
      refreshes own files dirs x.entries wants old x.set.view new before x.set.marks after told
      (sets own files dirs wants old x.set.view before x.set.marks f _ _ security file x.sets) x.refreshes

-- THE SESSION'S WORDS: this is no more than a command may change.
pub inside-changed : (view : VolumeView) (before next : Tree) (command : Command) (at : Located) (made : ℕ) (key : Key)
    → is_changed_key view before next command at made key ≡ false
    → is_command_key (is_own_key before command at made) (is_one_of (timed command at made))
    (λ dir. has_entry_of before (timed command at made) dir || has_entry_of next (timed command at made) dir) key ≡ false
inside-changed view before next command at made key e =
    let own = is_own_key before command at made key in
    let times = is_times_key (timed command at made) key in
    let told = is_directory_key before next (timed command at made) key in
    let a = or_parts own (times || (told || is_view_key view before command at key)) e in
    let b = or_parts times (told || is_view_key view before command at key) a.1 in
    let c = or_parts told (is_view_key view before command at key) b.1 in
    or_from own (times || told) a.0 (or_from times told b.0 c.0)
