-- A FILE THAT IS SHOWN, other than the root, is none of those with a copy, and has no name in one of these.
use Rattle.std.proofs.Common.{◌≡◌, ◌≢◌, ◌<◌, ◌&&◌, ◌||◌, ℕ, suc, ◌≤◌, ◌-◌, ◌==◌, Bool, true, false, [], ◌∷◌, inl, inr, refl, sym}
use Rattle.std.proofs.Common.{ap, subst, ◌∙◌, arith}
use Rattle.std.proofs.lemmas.Bool.{and_parts, cases_lt, eqb-true, false_from_ne_true, ne_eqb}
use Rattle.std.specs.List.{Contains}
use Rattle.ntfs_def.specs.declared.records.TheConstants.{FIRST_ORDINARY, ROOT}
use Rattle.volume_def.specs.FileNames.{names_of}
use Rattle.volume_def.specs.Files.{records_of}
use Rattle.volume_def.specs.View.{VolumeView}
use Rattle.list_laws.proofs.FindLaws.{passing, some-counted}
use Rattle.tree_model.specs.Hidden.{is_hidden, leads_to_system}
use Rattle.tree_model.specs.Reading.{read}
use Rattle.tree_model.specs.Subjects.{Located}
use Rattle.tree_model.specs.Tree.{is_in}
use Rattle.tree_model.specs.declared.command.Command.{Command}
use Rattle.tree_model.specs.declared.tree.Link.{Link}
use Rattle.tree_model.proofs.HiddenLaws.{hidden-ordinary, hidden-system, leads-system, none-leads}
use Rattle.tree_model.proofs.ShownLaws.{link-named}
use Rattle.session_def.specs.State.{Stands, State}
use Rattle.in_place_owed.proofs.CallsOwed.{tabled-of}
use Rattle.session_def.specs.Named.{every_link, has_entry_of, is_one_of, leads_among}
use Rattle.in_place.specs.Unnamed.{NamesNoneOf}
use Rattle.in_place_owed.specs.SetsInPlace.{edits_in_place, is_set_key}
use Rattle.in_place_owed.proofs.CostLaws.{link-among}
use Rattle.in_place_owed.proofs.RecordsOwed.{none-of}

never : {b : Bool} → b ≡ true → b ≡ false → ⊥
never x y = cc

no-entry : (view : VolumeView) (k f : ℕ) → view.layout.count ≡ suc k → FIRST_ORDINARY ≤ f → is_hidden (records_of view) f ≡ false
    → (n : ℕ) → n < 4
    → has_entry_of (read view) (f ∷ []) n ≡ true → ⊥
no-entry view k f count high shown n few has =
    let records = records_of view in
    let found = passing (λ link. is_in n link && leads_among (f ∷ []) link) (every_link (read view))
    (some-counted (λ link. is_in n link && leads_among (f ∷ []) link) (every_link (read view)) has) in
    let both = and_parts (is_in n found.0) (leads_among (f ∷ []) found.0) found.2 in
    let child = eqb-true found.0.child f (only (found.0.child == f) both.1) in
    let named = link-named view found.0 (link-among view found.0 found.1) in
    let parent : named.name.parent.number ≡ n = ap (λ (l : Link). l.parent) named.same ∙ eqb-true found.0.parent n both.0 in
    let there = subst (λ g. Contains (names_of records g) named.name) child named.there in
    let free = none-leads records k f named.name there (sym (hidden-ordinary records k f count high) ∙ shown) in
    let leads = leads-system records k n (omega (arith, few)) (λ e. omega (arith, few, e)) in
    never leads (subst (λ m. leads_to_system records k m ≡ false) parent free)
  where
    only : (b : Bool) → (b || false) ≡ true → b ≡ true
    only true e = e
    only false e = e

other-file : (f n : ℕ) → FIRST_ORDINARY ≤ f → n < 4 → is_one_of (f ∷ []) n ≡ false
other-file f n high few = rw (ne_eqb f n (λ e. omega (arith, high, few, e))) refl

pub shown-apart : (before : State) → Stands before → (command : Command) (at : Located) → edits_in_place command ≡ true
    → is_hidden (records_of before.view) at.file ≡ false → at.file ≢ ROOT → (n : ℕ) → n < 4
    → NamesNoneOf (is_set_key before.machine.tree command at) n
shown-apart before stands command at is shown other n few =
    let f = at.file in elim (cases_lt f FIRST_ORDINARY) [
      | inl low ↦ absurd (never (hidden-system (records_of before.view) f low other) shown)
      | inr high ↦
          let many = (tabled-of before.image before.view stands.volume stands.sound).least in
          let count = before.view.layout.count in
          let none : has_entry_of (read before.view) (f ∷ []) n ≡ false = false_from_ne_true (has_entry_of (read before.view) (f ∷ []) n)
          (no-entry before.view (count - 1) f (omega (arith, many)) high shown n few) in
          none-of before.machine.tree command at n is (other-file f n high few)
          (subst (λ tree. has_entry_of tree (f ∷ []) n ≡ false) stands.reading none)
    ]
