-- Which attributes the keys of calls do not name.
use Rattle.std.proofs.Common.{Bool, List, [], ap, arith, false, inl, inr, length, refl, sym, true, ℕ, ◌&&◌, ◌==◌, ◌||◌, ◌∙◌, ◌≡◌, ◌≢◌}
use Rattle.std.proofs.lemmas.Bool.{and_right, cases_eq, cases_lt, ne_eqb, not-true, or_from}
use Rattle.std.specs.Prelude.{codes}
use Rattle.std.specs.Str.{bytes_eq}
use Rattle.list_laws.proofs.BoolLaws.{and-none, not-either}
use Rattle.ntfs_def.specs.Units.{wide}
use Rattle.ntfs_def.specs.declared.kinds.TheConstants.{ATTRIBUTE_LIST, BITMAP, DATA, FILE_NAME, STANDARD_INFORMATION}
use Rattle.ntfs_def.specs.declared.records.TheConstants.{CLUSTER_BITMAP, FIRST_ORDINARY, MFT, MFT_MIRROR, ROOT}
use Rattle.volume_def.specs.Files.{Records}
use Rattle.tree_model.specs.Hidden.{is_hidden}
use Rattle.tree_model.proofs.HiddenLaws.{hidden-system}
use Rattle.edit_def.specs.Edited.{is_room_file, is_room_key}
use Rattle.edit_def.specs.Kept.{IsUnseen, IsUnseenButTimes, key_of, same_key}
use Rattle.session_def.specs.Named.{is_index_kind}
use Rattle.command_edits.specs.Keys.{is_index_key_of, is_name_key_of, standard_key}
use Rattle.command_edits.proofs.AfterCall.{IsIndexKind, IsViewName}

-- OF VIEW INDEXES none.
pub name-no-view : (f n kind : ℕ) (units : List ℕ) → IsIndexKind kind → is_name_key_of f (key_of n kind (wide units)) ≡ false
name-no-view f n kind units (inl e) = ap (λ k. (k == FILE_NAME) && (n == f)) e
name-no-view f n kind units (inr (inl e)) = ap (λ k. (k == FILE_NAME) && (n == f)) e
name-no-view f n kind units (inr (inr e)) = ap (λ k. (k == FILE_NAME) && (n == f)) e

other-name : (units : List ℕ) → IsViewName units → bytes_eq (wide units) (wide (codes "$I30")) ≡ false
other-name units (inl e) = ap (λ u. bytes_eq (wide u) (wide (codes "$I30"))) e
other-name units (inr (inl e)) = ap (λ u. bytes_eq (wide u) (wide (codes "$I30"))) e
other-name units (inr (inr (inl e))) = ap (λ u. bytes_eq (wide u) (wide (codes "$I30"))) e
other-name units (inr (inr (inr e))) = ap (λ u. bytes_eq (wide u) (wide (codes "$I30"))) e

pub index-no-view : (dir n kind : ℕ) (units : List ℕ) → IsViewName units → is_index_key_of dir (key_of n kind (wide units)) ≡ false
index-no-view dir n kind units is =
    ap (λ b. is_index_kind kind && (b && (n == dir))) (other-name units is) ∙ and-none (is_index_kind kind)

pub standard-no-index : (f n kind : ℕ) (name : List ℕ) → IsIndexKind kind → same_key (standard_key f) (key_of n kind name) ≡ false
standard-no-index f n kind name (inl e) = ap (λ k. (STANDARD_INFORMATION == k) && ((f == n) && bytes_eq [] name)) e
standard-no-index f n kind name (inr (inl e)) = ap (λ k. (STANDARD_INFORMATION == k) && ((f == n) && bytes_eq [] name)) e
standard-no-index f n kind name (inr (inr e)) = ap (λ k. (STANDARD_INFORMATION == k) && ((f == n) && bytes_eq [] name)) e

-- OF WHAT THE TREE SHOWS none.
pub name-unseen : (f g : ℕ) → IsUnseen (is_name_key_of f) g
name-unseen f g kind name seen =
    let parts = not-either (kind == ATTRIBUTE_LIST) (kind == FILE_NAME) _ (not-true _ seen) in
    ap (λ b. b && (g == f)) parts.1

pub index-unseen : (dir g : ℕ) → IsUnseen (is_index_key_of dir) g
index-unseen dir g kind name seen =
    let parts = not-either (kind == ATTRIBUTE_LIST) (kind == FILE_NAME) _ (not-true _ seen) in
    by (is_index_kind kind) (bytes_eq name (wide (codes "$I30"))) (g == dir) parts.2
  where
    by : (a b c : Bool) → (a && b) ≡ false → (a && (b && c)) ≡ false
    by true true c e = cc
    by true false c e = refl
    by false b c e = refl

-- BUT FOR $STANDARD_INFORMATION of its own file.
pub standard-elsewhere : (f g kind : ℕ) (name : List ℕ) → g ≢ f → same_key (standard_key f) (key_of g kind name) ≡ false
standard-elsewhere f g kind name ne =
    ap (λ b. (STANDARD_INFORMATION == kind) && (b && bytes_eq [] name)) (ne_eqb f g (λ e. ne (sym e)))
    ∙ and-none (STANDARD_INFORMATION == kind)

pub standard-other : (f g : ℕ) → IsUnseenButTimes (same_key (standard_key f)) g
standard-other f g kind name seen ne =
    ap (λ b. b && ((f == g) && bytes_eq [] name)) (ne_eqb STANDARD_INFORMATION kind (λ e. ne (sym e)))

-- OF FILES THAT ARE SHOWN no attribute keeps room but lists, so the tree shows none of those in which room is kept.
room-file-none : (records : Records) (g : ℕ) → is_hidden records g ≡ false → is_room_file g ≡ false
room-file-none records g shown = elim (cases_eq g ROOT) [
  | inl e ↦ ap is_room_file e
  | inr ne ↦ elim (cases_lt g FIRST_ORDINARY) [
    | inl low ↦ let never : true ≡ false = sym (hidden-system records g low ne) ∙ shown in cc
    | inr high ↦
        or_from ((g == MFT) || (g == MFT_MIRROR)) (g == CLUSTER_BITMAP)
        (or_from (g == MFT) (g == MFT_MIRROR) (ne_eqb g MFT (λ e. absurd (omega arith))) (ne_eqb g MFT_MIRROR (λ e. absurd (omega arith))))
        (ne_eqb g CLUSTER_BITMAP (λ e. absurd (omega arith)))
  ]
]

pub room-unseen : (records : Records) (g : ℕ) → is_hidden records g ≡ false → IsUnseen is_room_key g
room-unseen records g shown kind name seen =
    let list = (not-either (kind == ATTRIBUTE_LIST) (kind == FILE_NAME) _ (not-true _ seen)).0 in
    let none = room-file-none records g shown in
    let table = (not-either (g == MFT) (g == MFT_MIRROR) (g == CLUSTER_BITMAP) none).0 in
    or_from ((kind == ATTRIBUTE_LIST) || ((kind == BITMAP) && ((length name == 0) && (g == MFT))))
    ((kind == DATA) && ((length name == 0) && is_room_file g))
    (or_from (kind == ATTRIBUTE_LIST) ((kind == BITMAP) && ((length name == 0) && (g == MFT))) list
    (and_right (kind == BITMAP) ((length name == 0) && (g == MFT)) (and_right (length name == 0) (g == MFT) table)))
    (and_right (kind == DATA) ((length name == 0) && is_room_file g) (and_right (length name == 0) (is_room_file g) none))
