use Rattle.std.proofs.Common.{arith}
use Rattle.std.proofs.lemmas.Bool.{leb-true, lt-ltb, ltb-true}
use Rattle.mount_check.proofs.InsideLaws.{LieInside-last}
use Rattle.mount_check.proofs.mirror_place.lie_inside.Goals as goal

pub returns-then-mirror-clusters : goal.returns-then-mirror-clusters
returns-then-mirror-clusters c =
    let one = LieInside-last c.args.mirror c.args.sectors c.args.clusters c.requires in (
      λ t. one.0 (omega (arith, ltb-true _ _ t, c.if-mirror-clusters.true)),
      λ all. lt-ltb _ _ (omega (arith, one.1 all, c.if-mirror-clusters.true)),
    )

pub returns-else-mirror-clusters : goal.returns-else-mirror-clusters
returns-else-mirror-clusters c =
    let one = LieInside-last c.args.mirror c.args.sectors c.args.clusters c.requires in (
      λ t. absurd (omega (arith, leb-true _ _ t, c.if-mirror-clusters.false)),
      λ all. absurd (omega (arith, one.1 all, c.if-mirror-clusters.false)),
    )
