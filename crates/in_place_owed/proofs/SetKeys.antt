-- WHAT THE COMMAND NAMES: none of the attributes in which room is kept, and no more than it may change.
use Rattle.std.proofs.Common.{◌≡◌, ◌≢◌, ◌⊎◌, ◌≤◌, ◌<◌, ◌==◌, ◌&&◌, ◌||◌, ℕ, Bool, true, false, [], ◌∷◌, codes, length, refl, sym}
use Rattle.std.proofs.Common.{ap, subst, inl, inr, ◌∙◌, arith}
use Rattle.std.proofs.lemmas.Bool.{and_parts, cases_Bool, cases_eq, cases_lt, eqb-true, ne_eqb, or_cases, or_from, or_parts}
use Rattle.std.specs.Str.{bytes_eq}
use Rattle.ntfs_def.specs.Units.{wide}
use Rattle.ntfs_def.specs.declared.kinds.TheConstants.{ATTRIBUTE_LIST, BITMAP, DATA, INDEX_ALLOCATION, INDEX_ROOT, STANDARD_INFORMATION}
use Rattle.ntfs_def.specs.declared.records.TheConstants.{CLUSTER_BITMAP, FIRST_ORDINARY, MFT, MFT_MIRROR, ROOT}
use Rattle.volume_def.specs.Files.{Records}
use Rattle.volume_def.specs.View.{VolumeView}
use Rattle.tree_model.specs.Hidden.{is_hidden}
use Rattle.tree_model.specs.Subjects.{Located, NoName}
use Rattle.tree_model.specs.Tree.{Tree}
use Rattle.tree_model.specs.declared.command.Command.{Command}
use Rattle.tree_model.proofs.HiddenLaws.{hidden-system}
use Rattle.edit_def.specs.Edited.{is_list_key, is_room_file}
use Rattle.edit_def.specs.Kept.{Key}
use Rattle.session_def.specs.Named.{has_entry_of, is_changed_key, is_directory_key, is_own_key, is_times_key, timed}
use Rattle.session_def.specs.Nodes.{edits_stream}
use Rattle.in_place.specs.RecordEditsInPlace.{NamesNoRoom}
use Rattle.in_place_owed.specs.SetsInPlace.{edits_in_place, is_entries_key, is_node_kind, is_set_key}
use Rattle.in_place_owed.proofs.InPlaceCommands.{own-elsewhere, own-kind, own-none, own-same, timed-one}

never : {b : Bool} → b ≡ true → b ≡ false → ⊥
never x y = cc

-- a key of another type than these is not named
pub kind-free : (tree : Tree) (command : Command) (at : Located) (key : Key) → edits_in_place command ≡ true → (key.kind == DATA) ≡ false
    → (key.kind == STANDARD_INFORMATION) ≡ false → is_node_kind key.kind ≡ false → is_set_key tree command at key ≡ false
kind-free tree command at key is data_free times nodes =
    or_from (is_own_key tree command at 0 key) _ (own-kind tree command at key is data_free)
    (or_from (is_times_key (at.file ∷ []) key) (is_entries_key tree (at.file ∷ []) key)
    (ap (λ b. b && ((length key.name == 0) && ((at.file == key.file) || false))) times)
    (ap (λ b. b && (bytes_eq key.name (wide (codes "$I30")) && has_entry_of tree (at.file ∷ []) key.file)) nodes))

-- A FILE THAT IS SHOWN is none of those that keep room.
pub shown-ordinary : (records : Records) (f : ℕ) → is_hidden records f ≡ false → (f ≡ ROOT) ⊎ (FIRST_ORDINARY ≤ f)
shown-ordinary records f shown = elim (cases_eq f ROOT) [
  | inl root ↦ inl root
  | inr other ↦ elim (cases_lt f FIRST_ORDINARY) [
    | inl low ↦ absurd (never (hidden-system records f low other) shown)
    | inr high ↦ inr high
  ]
]

-- a stream of another file than these
pub data-free : (tree : Tree) (command : Command) (at : Located) (key : Key) → edits_in_place command ≡ true → key.kind ≡ DATA
    → (key.file == at.file) ≡ false → is_set_key tree command at key ≡ false
data-free tree command at key is stream other =
    or_from (is_own_key tree command at 0 key) _ (own-elsewhere tree command at key is other)
    (or_from (is_times_key (at.file ∷ []) key) (is_entries_key tree (at.file ∷ []) key)
    (ap (λ k. (k == STANDARD_INFORMATION) && ((length key.name == 0) && ((at.file == key.file) || false))) stream)
    (ap (λ k. is_node_kind k && (bytes_eq key.name (wide (codes "$I30")) && has_entry_of tree (at.file ∷ []) key.file)) stream))

-- none where the command writes no stream
data-none : (tree : Tree) (command : Command) (at : Located) (key : Key) → edits_in_place command ≡ true → key.kind ≡ DATA
    → edits_stream command ≡ false → is_set_key tree command at key ≡ false
data-none tree command at key is stream none =
    or_from (is_own_key tree command at 0 key) _ (own-none tree command at key is none)
    (or_from (is_times_key (at.file ∷ []) key) (is_entries_key tree (at.file ∷ []) key)
    (ap (λ k. (k == STANDARD_INFORMATION) && ((length key.name == 0) && ((at.file == key.file) || false))) stream)
    (ap (λ k. is_node_kind k && (bytes_eq key.name (wide (codes "$I30")) && has_entry_of tree (at.file ∷ []) key.file)) stream))

-- a file below 24, and not the root, is not the command's
pub low-other : (f g : ℕ) → (f ≡ ROOT) ⊎ (FIRST_ORDINARY ≤ f) → g < FIRST_ORDINARY → g ≢ ROOT → (g == f) ≡ false
low-other f g (inl root) low other = ne_eqb g f (λ e. other (e ∙ root))
low-other f g (inr high) low other = ne_eqb g f (λ e. omega (arith, e, high, low))

room-low : (f : ℕ) → is_room_file f ≡ true → (f < FIRST_ORDINARY) × (f ≢ ROOT)
room-low f is = elim (or_cases ((f == MFT) || (f == MFT_MIRROR)) (f == CLUSTER_BITMAP) is) [
  | inl front ↦ elim (or_cases (f == MFT) (f == MFT_MIRROR) front) [
    | inl e ↦ let k = eqb-true f MFT e in (omega (arith, k), λ root. omega (arith, k, root))
    | inr e ↦ let k = eqb-true f MFT_MIRROR e in (omega (arith, k), λ root. omega (arith, k, root))
  ]
  | inr e ↦ let k = eqb-true f CLUSTER_BITMAP e in (omega (arith, k), λ root. omega (arith, k, root))
]

-- ROOM: told by the type, and of streams by the file
pub set-no_room : (tree : Tree) (command : Command) (at : Located) (records : Records) → edits_in_place command ≡ true
    → (edits_stream command ≡ true → is_hidden records at.file ≡ false) → NamesNoRoom (is_set_key tree command at)
set-no_room tree command at records is shown key room =
    let list = is_list_key key in
    let bits = (key.kind == BITMAP) && ((length key.name == 0) && (key.file == MFT)) in
    let stream = (key.kind == DATA) && ((length key.name == 0) && is_room_file key.file) in
    elim (or_cases (list || bits) stream room) [
      | inl front ↦ elim (or_cases list bits front) [
        | inl e ↦ by-kind ATTRIBUTE_LIST (eqb-true key.kind ATTRIBUTE_LIST e) refl refl refl
        | inr e ↦
            by-kind BITMAP
            (eqb-true key.kind BITMAP (and_parts (key.kind == BITMAP) ((length key.name == 0) && (key.file == MFT)) e).0) refl refl refl
      ]
      | inr e ↦
          let parts = and_parts (key.kind == DATA) ((length key.name == 0) && is_room_file key.file) e in
          by-stream (eqb-true key.kind DATA parts.0) (and_parts (length key.name == 0) (is_room_file key.file) parts.1).1
    ]
  where
    by-kind : (kind : ℕ) → key.kind ≡ kind → (kind == DATA) ≡ false → (kind == STANDARD_INFORMATION) ≡ false → is_node_kind kind ≡ false
        → is_set_key tree command at key ≡ false
    by-kind kind e a b d =
        kind-free tree command at key is (ap (λ k. k == DATA) e ∙ a) (ap (λ k. k == STANDARD_INFORMATION) e ∙ b) (ap is_node_kind e ∙ d)

    by-stream : key.kind ≡ DATA → is_room_file key.file ≡ true → is_set_key tree command at key ≡ false
    by-stream e low = elim (cases_Bool (edits_stream command)) [
      | inl writes ↦
          let place = room-low key.file low in
          data-free tree command at key is e
          (low-other at.file key.file (shown-ordinary records at.file (shown writes)) place.0 place.1)
      | inr none ↦ data-none tree command at key is e none
    ]

-- the nodes of an index are among its attributes
less : (r a b n h k : Bool) → (((r || a) || b) && (n && (h || k))) ≡ false → ((r || a) && (n && h)) ≡ false
less true a b true true k e = cc
less true a b true false k e = refl
less true a b false h k e = refl
less false true b true true k e = cc
less false true b true false k e = refl
less false true b false h k e = refl
less false false b n h k e = refl

-- the times and the entries of a file, where these are the only times that the command sets
pub times-inside : (view : VolumeView) (before next : Tree) (command : Command) (at : Located) (made : ℕ)
    → timed command at made ≡ at.file ∷ []
    → (key : Key) → is_changed_key view before next command at made key ≡ false
    → (is_times_key (at.file ∷ []) key || is_entries_key before (at.file ∷ []) key) ≡ false
times-inside view before next command at made one key free =
    let files = timed command at made in
    let own = or_parts (is_own_key before command at made key) _ free in
    let outer = or_parts (is_times_key files key) _ own.1 in
    let inner = or_parts (is_directory_key before next files key) _ outer.1 in
    or_from (is_times_key (at.file ∷ []) key) (is_entries_key before (at.file ∷ []) key)
    (subst (λ xs. is_times_key xs key ≡ false) one outer.0)
    (subst (λ xs. is_entries_key before xs key ≡ false) one
    (less (key.kind == INDEX_ROOT) (key.kind == INDEX_ALLOCATION) (key.kind == BITMAP) (bytes_eq key.name (wide (codes "$I30")))
    (has_entry_of before files key.file) (has_entry_of next files key.file) inner.0))

pub set-inside : (view : VolumeView) (before next : Tree) (command : Command) (at : Located) (made : ℕ) → edits_in_place command ≡ true
    → at.new ≡ NoName
    → (key : Key) → is_changed_key view before next command at made key ≡ false → is_set_key before command at key ≡ false
set-inside view before next command at made is new key free =
    let own = or_parts (is_own_key before command at made key) _ free in
    or_from (is_own_key before command at 0 key) _ (sym (own-same before command at made key is) ∙ own.0)
    (times-inside view before next command at made (timed-one command at made is new) key free)
