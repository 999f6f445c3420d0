use Rattle.std.proofs.Common.{◌<◌, ℕ, length, Option, Some, None, refl, sym, subst}
use Rattle.std.proofs.lemmas.Bool.{false≢true}
use Rattle.std.specs.Prelude.{◌↔◌, IfNone, IfSome, IsTrue, is_some}
use Rattle.ntfs_def.specs.Attribute.{attribute_place}
use Rattle.attr_view.specs.View.{attributes_of, viewed_block}
use Rattle.volume_def.specs.VersionClause.{IsVersionAt}
use Rattle.mount_check.proofs.version.has_version.Goals as goal

decided : (Q : ℕ → Type 0) (n : ℕ) (o : Option ℕ) → IfSome o (λ i. (i < n) × Q i) → IfNone o ((i : ℕ) → i < n → ¬ (Q i))
    → IsTrue (is_some o) ↔ (i : ℕ) × (i < n) × Q i
decided Q n None some none = (λ f. absurd (false≢true f), λ (i, lt, q). absurd (none i lt q))
decided Q n (Some i) some none = (λ _. (i, some.0, some.1), λ _. refl)

pub returns : goal.returns
returns c =
    let block = viewed_block c.args.opened.now in
    let here : ℕ → Type 0 = λ i. IsVersionAt block (attribute_place block i) in
    let n = length (attributes_of c.args.opened.now) in
    subst (λ b. IsTrue b ↔ (i : ℕ) × (i < n) × here i) (sym c.is_some.ensures)
    (decided here n c.find_version.result c.find_version.ensures.some c.find_version.ensures.none)
