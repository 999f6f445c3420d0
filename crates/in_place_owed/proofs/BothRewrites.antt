-- THE CALLS AND THE FIRST MARK as one rewrite, and what it names not.
use Rattle.std.proofs.Common.{◌≡◌, ◌==◌, ◌||◌, ℕ, Bool, true, false, List, codes, length, inl, inr, refl, ap}
use Rattle.std.proofs.lemmas.Bool.{and_right, eqb-true, or_cases, or_from}
use Rattle.std.specs.Str.{bytes_eq}
use Rattle.ntfs_def.specs.Units.{wide}
use Rattle.ntfs_def.specs.declared.kinds.TheConstants.{BITMAP, DATA, INDEX_ALLOCATION, INDEX_ROOT, STANDARD_INFORMATION, VOLUME_INFORMATION}
use Rattle.volume_def.specs.Files.{records_of}
use Rattle.volume_def.specs.Sound as clauses
use Rattle.volume_def.specs.View.{VolumeView}
use Rattle.tree_model.specs.Subjects.{Located}
use Rattle.tree_model.specs.Tree.{Tree}
use Rattle.tree_model.specs.declared.command.Command.{Command}
use Rattle.edit_def.specs.Kept.{Key, either, key_of}
use Rattle.edit_def.specs.Names.{HasRightBases}
use Rattle.edit_def.proofs.NamesLaws.{bases-of}
use Rattle.session_def.specs.FirstMark.{is_first_key}
use Rattle.session_def.specs.Named.{is_index_kind}
use Rattle.session_def.specs.State.{State}
use Rattle.in_place.specs.InPlace.{Rewrites}
use Rattle.in_place.specs.Unnamed.{LiesApart}
use Rattle.in_place.proofs.RewriteLaws.{Rewrites-then}
use Rattle.in_place.proofs.StillApart.{apart-still}
use Rattle.in_place_owed.specs.SetsInPlace.{SetsInPlace, edits_in_place, is_node_kind, is_set_key}
use Rattle.in_place_owed.proofs.InPlaceCommands.{own-kind}
use Rattle.in_place_owed.proofs.SetKeys.{kind-free}

abbrev pub is_either_key : Tree → Command → Located → Key → Bool
is_either_key tree command at = either (is_set_key tree command at) is_first_key

-- an index is no stream
pub index-kind : (kind : ℕ) → is_index_kind kind ≡ true → (kind == DATA) ≡ false
index-kind kind is = elim (or_cases ((kind == INDEX_ROOT) || (kind == INDEX_ALLOCATION)) (kind == BITMAP) is) [
  | inl front ↦ elim (or_cases (kind == INDEX_ROOT) (kind == INDEX_ALLOCATION) front) [
    | inl e ↦ ap (λ k. k == DATA) (eqb-true kind INDEX_ROOT e)
    | inr e ↦ ap (λ k. k == DATA) (eqb-true kind INDEX_ALLOCATION e)
  ]
  | inr e ↦ ap (λ k. k == DATA) (eqb-true kind BITMAP e)
]

-- no index of another name than a directory's
pub either-no_index : (tree : Tree) (command : Command) (at : Located) → edits_in_place command ≡ true → (name : List ℕ)
    → (length (wide name) == 0) ≡ false
    → bytes_eq (wide name) (wide (codes "$I30")) ≡ false → (g kind : ℕ) → is_index_kind kind ≡ true
    → is_either_key tree command at (key_of g kind (wide name)) ≡ false
either-no_index tree command at edits name long other g kind is =
    let own = own-kind tree command at (key_of g kind (wide name)) edits (index-kind kind is) in
    rw (own, long, other)
    (or_from _ _
    (or_from _ _ (and_right (kind == STANDARD_INFORMATION) false refl) (and_right (is_node_kind kind) false refl))
    (or_from _ _ (and_right (kind == DATA) false refl) (and_right (kind == VOLUME_INFORMATION) false refl)))

-- an attribute of another type than those that it rewrites
pub either-kind : (tree : Tree) (command : Command) (at : Located) (key : Key) → edits_in_place command ≡ true → (key.kind == DATA) ≡ false
    → (key.kind == STANDARD_INFORMATION) ≡ false → is_node_kind key.kind ≡ false → is_first_key key ≡ false
    → is_either_key tree command at key ≡ false
either-kind tree command at key edits data_free times nodes first =
    or_from (is_set_key tree command at key) (is_first_key key) (kind-free tree command at key edits data_free times nodes) first

module _ (before next : State) (command : Command) (at : Located) (staged : VolumeView) (s : SetsInPlace before next command at staged)
  where
    pub both : Rewrites (is_either_key before.machine.tree command at) before.view next.view
    both = Rewrites-then (is_set_key before.machine.tree command at) is_first_key before.view staged next.view s.rewrites s.first.rewrites

    pub apart : LiesApart before.view
    apart = s.stands.apart

    pub apart-staged : LiesApart staged
    apart-staged = apart-still (is_set_key before.machine.tree command at) before.view staged s.rewrites apart

    pub bases : HasRightBases (records_of before.view)
    bases = bases-of (records_of before.view) (s.stands.sound clauses.References)
