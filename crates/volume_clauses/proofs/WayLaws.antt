-- The way of parents that are kept by number is that of the files' names.
use Rattle.std.proofs.Common.{◌≡◌, ◌↔◌, ◌<◌, ℕ, zero, suc, cond, List, Option, Some, None, slice_index, refl, sym, ap, ◌∙◌}
use Rattle.std.proofs.lemmas.Bool.{lt-ltb}
use Rattle.volume_def.specs.Files.{Records}
use Rattle.volume_def.specs.LinksClause.{parent_of, steps_up}
use Rattle.volume_clauses.specs.Marks.{Reaches, climbed}
use Rattle.volume_clauses.specs.Tallies.{parent_within}

-- Each file below the count has its directory as its parent, and itself where it has none.
pub record AreParents (records : Records) (count : ℕ) (parents : List ℕ) : Type 0 where
  pub each : (f : ℕ) → f < count → slice_index parents f ≡ parent_within count f (parent_of records f)
  pub inside : (f p : ℕ) → parent_of records f ≡ Some p → p < count

abbrev pub Leads : Records → ℕ → ℕ → Type 0
Leads records root f = (n : ℕ) × (steps_up n records (Some f) ≡ Some root)

next-none : (records : Records) (count : ℕ) (parents : List ℕ) (f : ℕ) → AreParents records count parents → f < count
    → parent_of records f ≡ None → slice_index parents f ≡ f
next-none records count parents f are l e = are.each f l ∙ ap (parent_within count f) e

next-some : (records : Records) (count : ℕ) (parents : List ℕ) (f p : ℕ) → AreParents records count parents → f < count
    → parent_of records f ≡ Some p → slice_index parents f ≡ p
next-some records count parents f p are l e =
    are.each f l ∙ ap (parent_within count f) e ∙ ap (λ b. cond b p f) (lt-ltb p count (are.inside f p e))

steps-none : (n : ℕ) (records : Records) → steps_up n records None ≡ None
steps-none zero records = refl
steps-none (suc n) records = steps-none n records

climbed-leads : (records : Records) (count : ℕ) (parents : List ℕ) (root k f : ℕ) → AreParents records count parents → f < count
    → climbed parents k f ≡ root → Leads records root f
climbed-leads records count parents root zero f are l e = (0, ap Some e)
climbed-leads records count parents root (suc k) f are l e =
    go (parent_of records f) refl (λ g h. climbed-leads records count parents root k g are h) where
      go : (o : Option ℕ) → parent_of records f ≡ o → ((g : ℕ) → g < count → climbed parents k g ≡ root → Leads records root g)
          → Leads records root f
      go None is rest = rest f l (sym (ap (climbed parents k) (next-none records count parents f are l is)) ∙ e)
      go (Some p) is rest =
          let w = rest p (are.inside f p is) (sym (ap (climbed parents k) (next-some records count parents f p are l is)) ∙ e) in
          (suc w.0, ap (steps_up w.0 records) is ∙ w.1)

leads-climbed : (records : Records) (count : ℕ) (parents : List ℕ) (root n f : ℕ) → AreParents records count parents → f < count
    → steps_up n records (Some f) ≡ Some root → (k : ℕ) × (climbed parents k f ≡ root)
leads-climbed records count parents root zero f are l e = (0, cc)
leads-climbed records count parents root (suc n) f are l e =
    go (parent_of records f) refl (λ g h. leads-climbed records count parents root n g are h) where
      go : (o : Option ℕ) → parent_of records f ≡ o
          → ((g : ℕ) → g < count → steps_up n records (Some g) ≡ Some root → (k : ℕ) × (climbed parents k g ≡ root))
          → (k : ℕ) × (climbed parents k f ≡ root)
      go None is rest = let none : None ≡ Some root = sym (ap (steps_up n records) is ∙ steps-none n records) ∙ e in absurd (cc)
      go (Some p) is rest =
          let w = rest p (are.inside f p is) (sym (ap (steps_up n records) is) ∙ e) in
          (suc w.0, ap (climbed parents w.0) (next-some records count parents f p are l is) ∙ w.1)

pub Reaches-Leads : (records : Records) (count : ℕ) (parents : List ℕ) (root f : ℕ) → AreParents records count parents → f < count
    → Reaches parents root f ↔ Leads records root f
unfolding Reaches
Reaches-Leads records count parents root f are l = (
  λ w. climbed-leads records count parents root w.0 f are l w.1,
  λ w. leads-climbed records count parents root w.0 f are l w.1,
)
