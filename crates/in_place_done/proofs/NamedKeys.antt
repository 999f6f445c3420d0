-- WHAT IS NAMED by the names of the file is named by the entries of the tree too.
use Rattle.std.proofs.Common.{◌≡◌, ◌==◌, ◌&&◌, ◌||◌, ℕ, true, false, List, [], ◌∷◌, codes, length, inl, inr, sym, ap, subst, ◌∙◌}
use Rattle.std.proofs.lemmas.Bool.{and_from, and_parts, eq-eqb, eqb-true, or_cases, or_left, or_right}
use Rattle.std.proofs.lemmas.Slice.Eq.{bytes_eq-Decides}
use Rattle.std.specs.List.{Contains}
use Rattle.std.specs.Str.{bytes_eq}
use Rattle.ntfs_def.specs.FileName.{FileName}
use Rattle.ntfs_def.specs.Units.{wide}
use Rattle.ntfs_def.specs.declared.kinds.TheConstants.{STANDARD_INFORMATION}
use Rattle.volume_def.specs.FileNames.{names_of}
use Rattle.volume_def.specs.Files.{records_of}
use Rattle.volume_def.specs.Readable.{IsFile}
use Rattle.list_laws.proofs.FindLaws.{passing, some-counted}
use Rattle.list_laws.proofs.MemberLaws.{Contains-from_map}
use Rattle.tree_model.specs.Subjects.{Located}
use Rattle.tree_model.specs.declared.command.Command.{Command}
use Rattle.edit_def.specs.Kept.{Key, key_of, same_key}
use Rattle.session_def.specs.Named.{has_entry_of, is_one_of, is_own_key, is_times_key}
use Rattle.session_def.specs.State.{Stands, State}
use Rattle.attribute_edits.specs.Attributes as edits
use Rattle.in_place_owed.specs.SetsInPlace.{is_entries_key, is_node_kind, is_set_key}
use Rattle.in_place_owed.proofs.EntryThere.{entry-there}

-- a directory that is among those of some names is that of one of them
dir-named : (names : List FileName) (dir : ℕ) → is_one_of (edits.dirs_of names) dir ≡ true
    → (name : FileName) × Contains names name × (name.parent.number ≡ dir)
dir-named names dir e =
    let x = passing (λ other. other == dir) (edits.dirs_of names) (some-counted (λ other. other == dir) (edits.dirs_of names) e) in
    let w = Contains-from_map (λ (name : FileName). name.parent.number) names x.0 x.1 in
    (w.0, w.1, w.2 ∙ eqb-true x.0 dir x.2)

-- $STANDARD_INFORMATION of the file is that of which its time is told
pub times-named : (f : ℕ) (key : Key) → same_key (key_of f STANDARD_INFORMATION []) key ≡ true → is_times_key (f ∷ []) key ≡ true
times-named f key e =
    let a = and_parts (STANDARD_INFORMATION == key.kind) ((f == key.file) && bytes_eq [] key.name) e in
    let b = and_parts (f == key.file) (bytes_eq [] key.name) a.1 in
    let none : [] ≡ key.name = (bytes_eq-Decides [] key.name).0 b.1 in
    and_from (key.kind == STANDARD_INFORMATION) ((length key.name == 0) && is_one_of (f ∷ []) key.file)
    (eq-eqb key.kind STANDARD_INFORMATION (sym (eqb-true STANDARD_INFORMATION key.kind a.0)))
    (and_from (length key.name == 0) (is_one_of (f ∷ []) key.file)
    (eq-eqb (length key.name) 0 (sym (ap length none)))
    (ap (λ b. b || false) b.0))

-- THE INDEX of a directory in which the file has a name is one in which it has an entry.
entries-named : (before : State) → Stands before → (f : ℕ) → IsFile before.view f → (key : Key)
    → edits.is_told_key (edits.dirs_of (names_of (records_of before.view) f)) key ≡ true
    → is_entries_key before.machine.tree (f ∷ []) key ≡ true
entries-named before stands f file key e =
    let names = names_of (records_of before.view) f in
    let a = and_parts (is_node_kind key.kind) (bytes_eq key.name (wide (codes "$I30")) && is_one_of (edits.dirs_of names) key.file) e in
    let b = and_parts (bytes_eq key.name (wide (codes "$I30"))) (is_one_of (edits.dirs_of names) key.file) a.1 in
    let w = dir-named names key.file b.1 in
    and_from (is_node_kind key.kind) (bytes_eq key.name (wide (codes "$I30")) && has_entry_of before.machine.tree (f ∷ []) key.file) a.0
    (and_from (bytes_eq key.name (wide (codes "$I30"))) (has_entry_of before.machine.tree (f ∷ []) key.file) b.0
    (subst (λ dir. has_entry_of before.machine.tree (f ∷ []) dir ≡ true) w.2 (entry-there before stands f w.0 file w.1)))

-- so the attributes by the entries of the tree are no fewer
pub told-named : (before : State) → Stands before → (f : ℕ) → IsFile before.view f → (key : Key)
    → edits.is_set_key before.view f key ≡ true
    → (is_times_key (f ∷ []) key || is_entries_key before.machine.tree (f ∷ []) key) ≡ true
told-named before stands f file key named = elim (or_cases (same_key (key_of f STANDARD_INFORMATION []) key)
    (edits.is_told_key (edits.dirs_of (names_of (records_of before.view) f)) key) named) [
      | inl own ↦ or_left (is_times_key (f ∷ []) key) (is_entries_key before.machine.tree (f ∷ []) key) (times-named f key own)
      | inr told ↦
          or_right (is_times_key (f ∷ []) key) (is_entries_key before.machine.tree (f ∷ []) key)
          (entries-named before stands f file key told)
    ]

-- .. whatever else the command names
pub set-named : (before : State) → Stands before → (command : Command) (at : Located) → IsFile before.view at.file → (key : Key)
    → edits.is_set_key before.view at.file key ≡ true → is_set_key before.machine.tree command at key ≡ true
set-named before stands command at file key named =
    or_right (is_own_key before.machine.tree command at 0 key) _ (told-named before stands at.file file key named)
