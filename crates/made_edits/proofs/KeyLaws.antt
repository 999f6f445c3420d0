-- THE ATTRIBUTES that the calls name.
use Rattle.std.proofs.Common.{◌≡◌, ◌≢◌, ◌==◌, ◌&&◌, ℕ, true, false, List, codes, sym, ap, inl, inr, ◌∙◌}
use Rattle.std.specs.Str.{bytes_eq}
use Rattle.std.proofs.lemmas.Bool.{and_from, and_left, and_parts, and_right, cases_Bool, eq-eqb, eqb-true, ne_eqb, or_from}
use Rattle.std.proofs.lemmas.Slice.Eq.{bytes_eq-Decides}
use Rattle.ntfs_def.specs.Units.{wide}
use Rattle.ntfs_def.specs.declared.kinds.TheConstants.{FILE_NAME, INDEX_ALLOCATION}
use Rattle.edit_def.specs.Edited.{is_room_key}
use Rattle.edit_def.specs.Kept.{Key, either, key_of, same_key}
use Rattle.in_place.specs.Named.{is_index_kind}
use Rattle.record_edits.specs.InPlace.{NamesNoRoom}
use Rattle.root_puts.specs.Keys.{is_index_key_of, is_key_of, is_name_key_of}

-- the same the other way round
eqb-swap : (a b : ℕ) → (a == b) ≡ false → (b == a) ≡ false
eqb-swap a b e = ne_eqb b a (λ is. let yes = eq-eqb a b (sym is) in let never : true ≡ false = sym yes ∙ e in cc)

-- an attribute of the file, and a name of it
pub own-key : (n kind : ℕ) (name : List ℕ) (key : Key) → is_key_of n key ≡ false → same_key (key_of n kind name) key ≡ false
own-key n kind name key e =
    and_right (kind == key.kind) ((n == key.file) && bytes_eq name key.name)
    (and_left (n == key.file) (bytes_eq name key.name) (eqb-swap key.file n e))

pub own-name : (n kind : ℕ) (name : List ℕ) (key : Key) → kind ≡ FILE_NAME → is_name_key_of n key ≡ false
    → same_key (key_of n kind name) key ≡ false
own-name n kind name key is e = elim (cases_Bool (same_key (key_of n kind name) key)) [
  | inr free ↦ free
  | inl same ↦
      let p = and_parts (kind == key.kind) ((n == key.file) && bytes_eq name key.name) same in
      let q = and_parts (n == key.file) (bytes_eq name key.name) p.1 in
      let yes : is_name_key_of n key ≡ true = and_from (key.kind == FILE_NAME) (key.file == n)
      (eq-eqb key.kind FILE_NAME (sym (eqb-true kind key.kind p.0) ∙ is)) (eq-eqb key.file n (sym (eqb-true n key.file q.0))) in
      let never : true ≡ false = sym yes ∙ e in
      cc
]

-- where no attribute of it is named, no name of it is
pub no-name : (n : ℕ) (key : Key) → is_key_of n key ≡ false → is_name_key_of n key ≡ false
no-name n key e = and_right (key.kind == FILE_NAME) (key.file == n) e

-- the records of the index of a directory
abbrev pub entry_key : ℕ → Key
entry_key dir = key_of dir INDEX_ALLOCATION (wide (codes "$I30"))

pub entry-index : (dir : ℕ) (key : Key) → is_index_key_of dir key ≡ false → same_key (entry_key dir) key ≡ false
entry-index dir key e = elim (cases_Bool (same_key (entry_key dir) key)) [
  | inr free ↦ free
  | inl same ↦
      let p = and_parts (INDEX_ALLOCATION == key.kind) ((dir == key.file) && bytes_eq (wide (codes "$I30")) key.name) same in
      let q = and_parts (dir == key.file) (bytes_eq (wide (codes "$I30")) key.name) p.1 in
      let kind : key.kind ≡ INDEX_ALLOCATION = sym (eqb-true INDEX_ALLOCATION key.kind p.0) in
      let name : wide (codes "$I30") ≡ key.name = (bytes_eq-Decides (wide (codes "$I30")) key.name).0 q.1 in
      let yes : is_index_key_of dir key ≡ true = and_from (is_index_kind key.kind)
      (bytes_eq key.name (wide (codes "$I30")) && (key.file == dir)) (ap is_index_kind kind)
      (and_from (bytes_eq key.name (wide (codes "$I30"))) (key.file == dir)
      ((bytes_eq-Decides key.name (wide (codes "$I30"))).1 (sym name)) (eq-eqb key.file dir (sym (eqb-true dir key.file q.0)))) in
      let never : true ≡ false = sym yes ∙ e in
      cc
]

pub index-entry : (dir : ℕ) (key : Key) → same_key (entry_key dir) key ≡ true → is_index_key_of dir key ≡ true
index-entry dir key same = elim (cases_Bool (is_index_key_of dir key)) [
  | inl named ↦ named
  | inr none ↦ let never : true ≡ false = sym same ∙ entry-index dir key none in cc
]

-- .. are none in which room is kept
pub entry-room : (dir : ℕ) → NamesNoRoom (same_key (entry_key dir))
entry-room dir key room = elim (cases_Bool (same_key (entry_key dir) key)) [
  | inr free ↦ free
  | inl same ↦
      let p = and_parts (INDEX_ALLOCATION == key.kind) ((dir == key.file) && bytes_eq (wide (codes "$I30")) key.name) same in
      let kind : key.kind ≡ INDEX_ALLOCATION = sym (eqb-true INDEX_ALLOCATION key.kind p.0) in
      let none : is_room_key key ≡ false = ap (λ (k : ℕ). is_room_key (key_of key.file k key.name)) kind in
      let never : true ≡ false = sym room ∙ none in
      cc
]

-- the index of another file is not named where all of one file is
pub other-index : (n g kind : ℕ) → g ≢ n → is_room_key (key_of g kind (wide (codes "$I30"))) ≡ false
    → either is_room_key (is_key_of n) (key_of g kind (wide (codes "$I30"))) ≡ false
other-index n g kind ne room = or_from (is_room_key (key_of g kind (wide (codes "$I30")))) (g == n) room (ne_eqb g n ne)
