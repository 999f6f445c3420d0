-- What a part says of its attribute: a value, and runs.
use Rattle.std.proofs.Common.{◌≡◌, ℕ, List, [], ◌∷◌, refl, sym, ap, ◌∙◌, arith}
use Rattle.std.specs.Prelude.{All, IsSome, is_some, unwrap_or}
use Rattle.std.specs.Option.{option_map}
use Rattle.std.proofs.lemmas.List.{append-nil}
use Rattle.std.proofs.lemmas.List.Elements.{All-contains}
use Rattle.ntfs_def.specs.Attribute.{Attribute, Body, NonResident, Resident, value_of}
use Rattle.attr_view.specs.Sizes.{body_with_sizes}
use Rattle.list_laws.proofs.MemberLaws.{All-from_Contains, Contains-head, Contains-later}
use Rattle.list_laws.proofs.OptionLaws.{map-some}
use Rattle.list_laws.proofs.PieceLaws.{All-one}
use Rattle.volume_def.specs.Coverage.{times_covered}
use Rattle.volume_def.specs.Files.{Part, content_of, content_runs, content_value, joined_runs, part_of, part_runs}
use Rattle.file_edits.specs.Owners.{times_in}
use Rattle.file_edits.specs.RecordEdit.{parts_made}

pub body-value : (body : Body) → content_value (content_of body) ≡ value_of body
body-value (Resident value) = refl
body-value (NonResident extent text) = refl

-- a value has no runs
pub body-none : (body : Body) → IsSome (value_of body) → unwrap_or (content_runs (content_of body)) [] ≡ []
body-none (Resident value) h = refl
body-none (NonResident extent text) h = cc

-- sizes that are set leave the runs
pub body-runs : (body : Body) (real initialized : ℕ) → content_runs (content_of (body_with_sizes body real initialized))
    ≡ content_runs (content_of body)
body-runs (Resident value) real initialized = refl
body-runs (NonResident extent text) real initialized = refl

-- attributes that are values
abbrev pub AreValues : List Attribute → Type 0
AreValues list = All (λ attribute. IsSome (value_of attribute.body)) list

-- .. have no cluster
pub no-runs : (n : ℕ) (list : List Attribute) → AreValues list → joined_runs (parts_made n list) ≡ []
no-runs n [] values = refl
no-runs n (x ∷ xs) values =
    let Is : Attribute → Type 0 = λ attribute. IsSome (value_of attribute.body) in
    let first : part_runs (part_of n x) ≡ [] = body-none x.body (All-contains Is (x ∷ xs) x values (Contains-head x xs)) in
    let rest = no-runs n xs (All-from_Contains Is xs (λ y c. All-contains Is (x ∷ xs) y values (Contains-later x xs y c))) in
    cc

pub no-times : (n : ℕ) (list : List Attribute) → AreValues list → (c : ℕ) → times_in (parts_made n list) c ≡ 0
no-times n list values c = ap (λ runs. times_covered runs c) (no-runs n list values)

-- one attribute has the clusters of its runs
pub one-times : (a b : Part) → part_runs b ≡ part_runs a → (c : ℕ) → times_in (b ∷ []) c ≡ times_in (a ∷ []) c
one-times a b same c = ap (λ runs. times_covered runs c) (append-nil (part_runs b) ∙ same ∙ sym (append-nil (part_runs a)))

pub one-value : (attribute : Attribute) → IsSome (value_of attribute.body) → AreValues (attribute ∷ [])
one-value attribute is = All-one (λ (attribute : Attribute). IsSome (value_of attribute.body)) attribute is

pub no-value : AreValues []
no-value k d lt = absurd (omega arith)

-- a value of which another is made
pub value-mapped : (was now : Body) (f : List ℕ → List ℕ) → value_of now ≡ option_map f (value_of was) → IsSome (value_of was)
    → IsSome (value_of now)
value-mapped was now f e is = ap is_some e ∙ map-some f (value_of was) ∙ is
