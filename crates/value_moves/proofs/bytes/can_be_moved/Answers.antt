use Rattle.std.proofs.Common.{◌≡◌, List, Option, Some, None, ℕ, false, is_some, refl, ap, sym, ◌∙◌}
use Rattle.std.proofs.lemmas.Bool.{eq-eqb, eqb-true}
use Rattle.std.specs.Prelude.{IsSome, option_copied}
use Rattle.std.specs.Borrow.{Bor}
use Rattle.ntfs_def.specs.Attribute.{value_of}
use Rattle.attr_view.specs.View.{attribute_of}
use Rattle.value_moves.proofs.MovedBytes.{CanBeMoved-value, value-moved}
use Rattle.value_moves.proofs.bytes.can_be_moved.Goals as goal

some-copied : (o : Option (Bor (List ℕ))) → is_some (option_copied o) ≡ is_some o
some-copied None = refl
some-copied (Some x) = refl

pub returns-then-is_some : goal.returns-then-is_some
returns-then-is_some c =
    let was = attribute_of c.args.attr.now in
    let some : IsSome (value_of was.body) =
    ap is_some (sym c.value.ensures) ∙ some-copied c.value.result ∙ sym c.is_some.ensures ∙ c.if-is_some.true in
    let plain = c.flags.ensures in (
      λ none. CanBeMoved-value was some (sym plain ∙ eqb-true c.flags.result 0 none),
      λ can. eq-eqb c.flags.result 0 (plain ∙ can.flags),
    )

pub returns-else-is_some : goal.returns-else-is_some
returns-else-is_some c =
    let was = attribute_of c.args.attr.now in
    let none : is_some (value_of was.body) ≡ false =
    ap is_some (sym c.value.ensures) ∙ some-copied c.value.result ∙ sym c.is_some.ensures ∙ c.if-is_some.false in (
      λ some. absurd (let no = c.if-is_some.false in cc),
      λ can. absurd (let some = value-moved was can in cc),
    )
