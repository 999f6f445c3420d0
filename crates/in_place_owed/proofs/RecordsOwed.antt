-- RECORDS AND COPIES: no record is written of a file that is not changed, and none alone of those with a copy.
use Rattle.std.proofs.Common.{◌≡◌, ◌<◌, ◌==◌, ◌&&◌, ◌||◌, ℕ, Bool, true, false, [], ◌∷◌, codes, length, Option, Some, None}
use Rattle.std.proofs.Common.{inl, inr, refl, sym, subst, ◌∙◌, arith}
use Rattle.std.proofs.lemmas.Bool.{cases_eq, eq-eqb, ne_eqb, or_from, or_parts}
use Rattle.std.specs.Option.{option_map}
use Rattle.std.specs.Prelude.{IfSome, is_none, unwrap_or}
use Rattle.std.specs.Str.{bytes_eq}
use Rattle.ntfs_def.specs.Record.{Reference}
use Rattle.ntfs_def.specs.Units.{wide}
use Rattle.ntfs_def.specs.declared.kinds.TheConstants.{STANDARD_INFORMATION}
use Rattle.ntfs_def.specs.declared.records.TheConstants.{CLUSTER_BITMAP, MFT, VOLUME}
use Rattle.volume_def.specs.AttributesClause.{IsRightRecord}
use Rattle.volume_def.specs.Files.{Record, file_of, record_on}
use Rattle.volume_def.specs.Sound as clauses
use Rattle.volume_def.specs.Sound.{IsSound}
use Rattle.volume_def.specs.View.{VolumeView}
use Rattle.tree_model.specs.IndexRoom.{object_id_index, point_index}
use Rattle.tree_model.specs.Subjects.{Located, NoName}
use Rattle.tree_model.specs.Tree.{Tree}
use Rattle.tree_model.specs.declared.command.Command.{Command}
use Rattle.edit_def.specs.Kept.{key_of}
use Rattle.session_def.specs.Cost.{is_changed_file, is_file_of}
use Rattle.session_def.specs.Named.{changes_ids, changes_points, has_entry_of, is_one_of, timed}
use Rattle.session_def.specs.Room.{KeepsBlocks, KeepsCopies, is_written_file}
use Rattle.session_def.specs.State.{State}
use Rattle.in_place.specs.Unnamed.{NamesNoneOf}
use Rattle.in_place.proofs.BehindLaws.{blocks-behind, copies-behind}
use Rattle.in_place.specs.Behind.{MarksBehind}
use Rattle.in_place_owed.specs.SetsInPlace.{SetsInPlace, edits_in_place, is_node_kind, is_set_key}
use Rattle.in_place_owed.proofs.InPlaceCommands.{own-elsewhere, timed-one}

never : {b : Bool} → b ≡ true → b ≡ false → ⊥
never x y = cc

-- A FILE that is not changed is neither the one of the command nor a directory in which that has a name.
pub none-of : (tree : Tree) (command : Command) (at : Located) (g : ℕ) → edits_in_place command ≡ true
    → is_one_of (at.file ∷ []) g ≡ false → has_entry_of tree (at.file ∷ []) g ≡ false → NamesNoneOf (is_set_key tree command at) g
none-of tree command at g is other none kind name =
    let own = own-elsewhere tree command at (key_of g kind name) is (turned (or_parts (at.file == g) false other).0) in
    rw (own, other, none) (or_from _ _ (off (kind == STANDARD_INFORMATION) (length name == 0))
    (off (is_node_kind kind) (bytes_eq name (wide (codes "$I30")))))
  where
    turned : (at.file == g) ≡ false → (g == at.file) ≡ false
    turned e = ne_eqb g at.file (λ same. never (eq-eqb at.file g (sym same)) e)

    off : (a b : Bool) → (a && (b && false)) ≡ false
    off true true = refl
    off true false = refl
    off false b = refl

unchanged : (view : VolumeView) (before next : Tree) (command : Command) (at : Located) (made : ℕ) → edits_in_place command ≡ true
    → at.new ≡ NoName → (f : ℕ)
    → is_written_file (is_changed_file view before next command at made) f ≡ false
    → NamesNoneOf (is_set_key before command at) f
unchanged view before next command at made is new f free =
    let files = timed command at made in
    let one = timed-one command at made is new in
    let a = or_parts (f == MFT) _ free in
    let b = or_parts (f == VOLUME) _ a.1 in
    let d = or_parts (f == CLUSTER_BITMAP) _ b.1 in
    let front = is_one_of files f || has_entry_of before files f in
    let e = or_parts (front || has_entry_of next files f || (changes_points before command at && is_file_of (point_index view) f))
    (changes_ids before command at && is_file_of (object_id_index view) f) d.1 in
    let g = or_parts (front || has_entry_of next files f) (changes_points before command at && is_file_of (point_index view) f) e.0 in
    let h = or_parts front (has_entry_of next files f) g.0 in
    let k = or_parts (is_one_of files f) (has_entry_of before files f) h.0 in
    none-of before command at f is (subst (λ xs. is_one_of xs f ≡ false) one k.0) (subst (λ xs. has_entry_of before xs f ≡ false) one k.1)

-- THE FIRST RECORDS are base records, so each is of its own file.
own-file : (n : ℕ) (b : Option Reference) → is_none b ≡ true → unwrap_or (option_map (λ (r : Reference). r.number) b) n ≡ n
own-file n None is = refl
own-file n (Some r) is = cc

pub first-own : (view : VolumeView) → IsSound view → (n : ℕ) (r : Record) → n < 4 → record_on view n ≡ Some r → file_of n r ≡ n
first-own view sound n r few there =
    let right : IsRightRecord n r = subst (λ o. IfSome o (IsRightRecord n)) there (sound clauses.Attributes n) in
    own-file n r.header.base (right.system (omega (arith, few)))

-- THE FIRST MARK writes the record of the flag alone.
marks-blocks : (staged next : VolumeView) → IsSound staged → MarksBehind staged next → (files : ℕ → Bool) → KeepsBlocks files staged next
marks-blocks staged next sound marks files n r there free = elim (cases_eq n VOLUME) [
  | inl is ↦
      let its = first-own staged sound n r (omega (arith, is)) there ∙ is in
      let b = or_parts (file_of n r == VOLUME) _ (or_parts (file_of n r == MFT) _ free).1 in
      absurd (never (eq-eqb (file_of n r) VOLUME its) b.0)
  | inr other ↦ (marks.others n other).block
]

marks-copies : (staged next : VolumeView) → MarksBehind staged next → KeepsCopies staged next
marks-copies staged next marks n few same = elim (cases_eq n VOLUME) [
  | inl is ↦
      subst (λ m. next.copy m ≡ staged.copy m) (sym is) (marks.copy (subst (λ m. next.block m ≡ staged.block m) is same))
  | inr other ↦ (marks.others n other).copy few
]

pub blocks-owed : (before next : State) (command : Command) (at : Located) (made : ℕ) (staged : VolumeView)
    → SetsInPlace before next command at staged
    → KeepsBlocks (is_changed_file before.view before.machine.tree next.machine.tree command at made) before.view next.view
blocks-owed before next command at made staged s =
    let files = is_changed_file before.view before.machine.tree next.machine.tree command at made in
    blocks-behind (is_set_key before.machine.tree command at) before.view staged next.view s.rewrites files
    (unchanged before.view before.machine.tree next.machine.tree command at made s.edits s.new)
    (marks-blocks staged next.view s.sound s.first files)

pub copies-owed : (before next : State) (command : Command) (at : Located) (staged : VolumeView) → SetsInPlace before next command at staged
    → KeepsCopies before.view next.view
copies-owed before next command at staged s =
    let many = s.stands.tabled.least in
    copies-behind (is_set_key before.machine.tree command at) before.view staged next.view s.rewrites (omega (arith, many))
    (λ n r few there. subst (NamesNoneOf (is_set_key before.machine.tree command at))
    (sym (first-own before.view s.stands.sound n r few there)) (s.firsts n few))
    (marks-copies staged next.view s.first)
