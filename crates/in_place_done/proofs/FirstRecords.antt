-- NO RECORD WITH A COPY is named, where no name of the file stands in one: also not of the root.
use Rattle.std.proofs.Common.{◌≡◌, ◌<◌, ◌≤◌, ◌&&◌, ◌||◌, ◌==◌, ℕ, Bool, true, false, [], ◌∷◌, Some, inl, inr, refl}
use Rattle.std.proofs.Common.{ap, subst, ◌∙◌, arith}
use Rattle.std.proofs.lemmas.Bool.{and_parts, cases_eq, cases_lt, eqb-true, false_from_ne_true, ne_eqb}
use Rattle.std.specs.List.{Contains}
use Rattle.ntfs_def.specs.FileName.{FileName}
use Rattle.ntfs_def.specs.declared.records.TheConstants.{FIRST_ORDINARY, ROOT}
use Rattle.volume_def.specs.FileNames.{names_of}
use Rattle.volume_def.specs.Files.{records_of}
use Rattle.volume_def.specs.View.{VolumeView}
use Rattle.list_laws.proofs.FindLaws.{passing, some-counted}
use Rattle.tree_model.specs.Reading.{node_at, read}
use Rattle.tree_model.specs.Subjects.{Located}
use Rattle.tree_model.specs.Tree.{Tree, is_in}
use Rattle.tree_model.specs.declared.command.Command.{Command}
use Rattle.tree_model.specs.declared.tree.Node.{Node}
use Rattle.tree_model.specs.declared.tree.Link.{Link}
use Rattle.tree_model.proofs.HiddenLaws.{hidden-system}
use Rattle.tree_model.proofs.NamesLaws.{is_shown}
use Rattle.tree_model.proofs.ShownLaws.{link-named}
use Rattle.session_def.specs.Named.{every_link, has_entry_of, leads_among}
use Rattle.in_place.specs.Unnamed.{NamesNoneOf}
use Rattle.in_place_owed.specs.SetsInPlace.{edits_in_place, is_set_key}
use Rattle.in_place_owed.proofs.CostLaws.{link-among}
use Rattle.in_place_owed.proofs.RecordsOwed.{none-of}

never : {b : Bool} → b ≡ true → b ≡ false → ⊥
never x y = cc

-- a file that is shown is none of those records
pub file-high : (view : VolumeView) (f : ℕ) (node : Node) → node_at view f ≡ Some node → 4 ≤ f
file-high view f node there = elim (cases_eq f ROOT) [
  | inl root ↦ omega (arith, root)
  | inr other ↦ elim (cases_lt f FIRST_ORDINARY) [
    | inl low ↦ absurd (never (hidden-system (records_of view) f low other) (is_shown view f node there).shown)
    | inr high ↦ omega (arith, high)
  ]
]

-- an entry of the file is one of its names
pub entry-high : (view : VolumeView) (f : ℕ) → ((name : FileName) → Contains (names_of (records_of view) f) name → 4 ≤ name.parent.number)
    → (n : ℕ) → has_entry_of (read view) (f ∷ []) n ≡ true → 4 ≤ n
entry-high view f high n has =
    let is_entry = λ (link : Link). is_in n link && leads_among (f ∷ []) link in
    let found = passing is_entry (every_link (read view)) (some-counted is_entry (every_link (read view)) has) in
    let both = and_parts (is_in n found.0) (leads_among (f ∷ []) found.0) found.2 in
    let child = eqb-true found.0.child f (only (found.0.child == f) both.1) in
    let named = link-named view found.0 (link-among view found.0 found.1) in
    let parent : named.name.parent.number ≡ n = ap (λ (l : Link). l.parent) named.same ∙ eqb-true found.0.parent n both.0 in
    let there = subst (λ g. Contains (names_of (records_of view) g) named.name) child named.there in
    subst (λ m. 4 ≤ m) parent (high named.name there)
  where
    only : (b : Bool) → (b || false) ≡ true → b ≡ true
    only true e = e
    only false e = e

pub firsts-free : (view : VolumeView) (tree : Tree) → read view ≡ tree → (command : Command) (at : Located)
    → edits_in_place command ≡ true → (node : Node) → node_at view at.file ≡ Some node
    → ((name : FileName) → Contains (names_of (records_of view) at.file) name → 4 ≤ name.parent.number)
    → (n : ℕ) → n < 4 → NamesNoneOf (is_set_key tree command at) n
firsts-free view tree reading command at is node there high n few =
    let f = at.file in
    let above = file-high view f node there in
    let none : has_entry_of (read view) (f ∷ []) n ≡ false = false_from_ne_true (has_entry_of (read view) (f ∷ []) n)
    (λ has. let least = entry-high view f high n has in omega (arith, least, few)) in
    none-of tree command at n is (rw (ne_eqb f n (λ e. omega (arith, above, few, e))) refl)
    (subst (λ tree. has_entry_of tree (f ∷ []) n ≡ false) reading none)
