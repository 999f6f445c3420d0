-- Ways up that do not pass a file.
use Rattle.std.proofs.Common.{Bool, None, Some, ap, arith, eq-eqb, eqb, eqb-true, false, inl, inr, refl, suc, sym, true, zero, ℕ, ◌&&◌}
use Rattle.std.proofs.Common.{◌==◌, ◌||◌, ◌∙◌, ◌≡◌, ◌≤◌}
use Rattle.std.specs.List.{list_any}
use Rattle.std.specs.Option.{option_map_or}
use Rattle.std.specs.Prelude.{count_by, option_map}
use Rattle.std.proofs.lemmas.Bool.{and_parts, cases_eq, false_from_ne_true}
use Rattle.list_laws.proofs.FindLaws.{find-one, passing}
use Rattle.ntfs_def.specs.FileName.{FileName}
use Rattle.volume_def.specs.FileNames.{is_not_dos, names_of}
use Rattle.volume_def.specs.Files.{Records, record_on, records_of}
use Rattle.volume_def.specs.LinksClause.{MeetsLinks, parent_of}
use Rattle.volume_def.specs.ReferencesClause.{MeetsReferences}
use Rattle.volume_def.specs.View.{VolumeView}
use Rattle.tree_model.specs.Cases.{lies_in}
use Rattle.tree_model.specs.Reading.{link_for, read}
use Rattle.tree_model.specs.Tree.{first_name}
use Rattle.tree_model.proofs.ClimbLaws.{Climbs, IsDirectoryOf, IsShownDirectory, on-way, parent-directory, shown-up, way}
use Rattle.tree_model.proofs.PathLaws.{first-read, name-first}
use Rattle.edit_def.specs.Names.{Numbers, numbers_at}
use Rattle.name_edits.proofs.RightNames.{directory-numbers}

-- THE DIRECTORY ABOVE, where one name counts.
pub parent-by : (records : Records) (f dir : ℕ) → count_by is_not_dos (names_of records f) ≤ 1
    → 1 ≤ count_by (λ name. is_not_dos name && (name.parent.number == dir)) (names_of records f) → parent_of records f ≡ Some dir
parent-by records f dir one some =
    let w = passing (λ (name : FileName). is_not_dos name && (name.parent.number == dir)) (names_of records f) some in
    let p = and_parts (is_not_dos w.0) (w.0.parent.number == dir) w.2 in
    let e = eqb-true w.0.parent.number dir p.1 in
    ap (option_map (λ (name : FileName). name.parent.number)) (find-one is_not_dos (names_of records f) w.0 one w.1 p.0) ∙ ap Some e

-- the way up from a directory does not pass a number that is none's
pub past-none : (v : VolumeView) (references : (n : ℕ) → MeetsReferences (records_of v) n) (links : (n : ℕ) → MeetsLinks (records_of v) n)
    (f m g : ℕ) → numbers_at (records_of v) f ≡ None → (c : Climbs v m g) → IsDirectoryOf v g → list_any (eqb f) (way v m g c) ≡ false
past-none v references links f m g none c dir = false_from_ne_true (list_any (eqb f) (way v m g c)) (λ e.
    let w = on-way v (IsDirectoryOf v) (λ h ne has is. parent-directory v references links h has) m g c dir f e in
    let n = directory-numbers (record_on v f) w.holds in
    let never : None ≡ Some n.0 = sym none ∙ n.1 in
    none-some n.0 never)
  where
    none-some : (n : Numbers) → None ≡ Some n → ⊥
    none-some n e = cc

-- nor one in which the tree does not find it
pub loops-past : (v : VolumeView) (references : (n : ℕ) → MeetsReferences (records_of v) n) (links : (n : ℕ) → MeetsLinks (records_of v) n)
    (f k m g : ℕ) → (c : Climbs v m g) → IsShownDirectory v g → m ≤ k → lies_in (read v) k f g ≡ false
    → list_any (eqb f) (way v m g c) ≡ false
loops-past v references links f k zero g c is l apart = refl
loops-past v references links f zero (suc m) g c is l apart = absurd (omega arith)
loops-past v references links f (suc k) (suc m) g (ne, has, c) is l apart =
    by (λ rest. loops-past v references links f k m has.name.parent.number c (shown-up v references links g ne has is) (omega arith) rest)
    (g == f) refl apart
  where
    first : first_name (read v).links g ≡ Some (link_for g has.name)
    first = first-read v g ne has is ∙ name-first v g has

    same : (a b : ℕ) → eqb a b ≡ eqb b a
    same a b = elim (cases_eq a b) [
      | inl e ↦ eq-eqb a b e ∙ sym (eq-eqb b a (sym e))
      | inr ne ↦ false_from_ne_true (eqb a b) (λ t. ne (eqb-true a b t))
          ∙ sym (false_from_ne_true (eqb b a) (λ t. ne (sym (eqb-true b a t))))
    ]

    by : (lies_in (read v) k f has.name.parent.number ≡ false → list_any (eqb f) (way v m has.name.parent.number c) ≡ false)
        → (b : Bool) → (g == f) ≡ b
        → (b || option_map_or (lies_in (read v) k f) (option_map (λ link. link.parent) (first_name (read v).links g)) false) ≡ false
        → (eqb f g || list_any (eqb f) (way v m has.name.parent.number c)) ≡ false
    by ih true e apart = cc
    by ih false e apart =
        let here : lies_in (read v) k f has.name.parent.number ≡ false =
        sym (ap (λ o. option_map_or (lies_in (read v) k f) (option_map (λ link. link.parent) o) false) first) ∙ apart in
        ap (λ b. b || list_any (eqb f) (way v m has.name.parent.number c)) (same f g ∙ e) ∙ ih here
