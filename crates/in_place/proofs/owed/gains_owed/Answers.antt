use Rattle.in_place.proofs.OwedInPlace as laws
use Rattle.in_place.proofs.owed.gains_owed.Goals as goal

pub returns : goal.returns
returns c = λ changed before next command at w owned. record {
  ends = λ f kind name plain vcn gained. absurd (laws.none-gained changed before.view next.view w f kind name vcn gained);
  gains = λ vcn gained. absurd (laws.none-gained_named changed before.view next.view w at.file _ vcn gained);
  owned = owned;
}
