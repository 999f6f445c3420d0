use Rattle.std.proofs.Common.{◌≤◌, length, arith}
use Rattle.std.proofs.lemmas.List.{length-take-le}
use Rattle.volume_def.specs.BitmapClauses.{MeetsClusterBits, cluster_bits}
use Rattle.volume_def.specs.Values.{value_on}
use Rattle.list_laws.proofs.LeastLaws.{least-found, least-none}
use Rattle.list_laws.proofs.BitLaws.{shorter-piece}
use Rattle.check_records.proofs.clusters.first_wrong_cluster.Goals as goal

pub returns-in-Some : goal.returns-in-Some
returns-in-Some c = λ view notes has is enough.
    let bytes = c.args.bytes.now in
    let needed = c.min-needed.result in
    let within : needed ≤ length bytes = omega (arith, c.min-needed.ensures) in
    let long = length-take-le needed bytes within in
    let P = MeetsClusterBits view in
    least-found P _ c.in-Some.cluster
    (c.in-Some.ensures view c.args.written notes has (omega (arith, long, c.min-needed.ensures, c.bitmap_len.ensures))
    (shorter-piece (value_on view (cluster_bits view)) bytes needed within is) (least-none P))

pub returns-in-None : goal.returns-in-None
returns-in-None c = λ view notes has is enough.
    let bytes = c.args.bytes.now in
    let needed = c.min-needed.result in
    let within : needed ≤ length bytes = omega (arith, c.min-needed.ensures) in
    let long = length-take-le needed bytes within in
    let P = MeetsClusterBits view in
    let before = c.in-None.ensures view c.args.written notes has (omega (arith, long, c.min-needed.ensures, c.bitmap_len.ensures))
    (shorter-piece (value_on view (cluster_bits view)) bytes needed within is) (least-none P) in
    c.first_without_bit.ensures view notes.clusters has
    (λ k low. before k (omega (arith, long, c.min-needed.ensures, c.bitmap_len.ensures, notes.clusters)))
