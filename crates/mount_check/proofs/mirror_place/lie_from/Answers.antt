use Rattle.std.proofs.Common.{refl, sym, ◌∙◌, arith}
use Rattle.std.proofs.lemmas.Bool.{false≢true}
use Rattle.std.proofs.lemmas.Nat.{mul-le}
use Rattle.mount_check.proofs.PlaceLaws.{copied-low}
use Rattle.mount_check.proofs.mirror_place.lie_from.Goals as goal

pub lies_if_copied-requires : goal.lies_if_copied-requires
lies_if_copied-requires c = omega (arith, mul-le c.loop-vcn.vcn c.args.sectors 8 8 (omega arith) c.requires.few)

pub returns-then-not-lies_if_copied : goal.returns-then-not-lies_if_copied
returns-then-not-lies_if_copied c = (
  λ f. absurd (false≢true f),
  λ all. absurd (false≢true (sym c.if-not-lies_if_copied.true ∙ c.lies_if_copied.ensures.1 (all c.loop-vcn.vcn))),
)

pub returns : goal.returns
returns c = (
  λ t k lt. c.loop-vcn.invariant k (let low = copied-low k c.args.sectors c.requires.some lt in omega arith) lt,
  λ all. refl,
)
