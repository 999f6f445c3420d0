use Rattle.std.proofs.Common.{refl, sym, ◌∙◌}
use Rattle.std.proofs.lemmas.Bool.{false≢true}
use Rattle.mount_check.proofs.PlaceLaws.{extent-told, value-told}
use Rattle.mount_check.proofs.mirror_place.is_plain_stream.Goals as goal

pub returns-then-not-is_plain : goal.returns-then-not-is_plain
returns-then-not-is_plain c = λ extents notes. (
  λ f. absurd (false≢true f),
  λ has. absurd (false≢true (sym c.if-not-is_plain.true ∙ (c.is_plain.ensures extents notes).1 has.0)),
)

pub returns-in-Some : goal.returns-in-Some
returns-in-Some c = λ extents notes. (
  λ f. absurd (false≢true f),
  λ has. absurd (value-told _ _ (c.in-Some.ensures.some extents notes) has.1),
)

pub returns-in-None : goal.returns-in-None
returns-in-None c = λ extents notes.
    let plain = (c.is_plain.ensures extents notes).0 c.if-not-is_plain.false in
    (λ t. (plain, extent-told _ plain (c.in-None.ensures.none extents notes)), λ has. refl)
