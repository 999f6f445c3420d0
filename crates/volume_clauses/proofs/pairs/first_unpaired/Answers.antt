use Rattle.std.proofs.Common.{◌≡◌, arith, true, false}
use Rattle.volume_clauses.proofs.KeyLaws.{all-paired, least-unpaired}
use Rattle.volume_clauses.proofs.pairs.first_unpaired.Goals as goal

pub returns-then-not-is_paired : goal.returns-then-not-is_paired
returns-then-not-is_paired c =
    least-unpaired c.args.keys.now c.loop-i.i _ c.requires.range c.requires.sorted (omega (arith, c.loop-i-test.true)) c.loop-i.invariant
    (λ p. let yes : c.is_paired.result ≡ true = (c.is_paired.ensures _).1 p in let none : c.is_paired.result ≡ false =
    c.if-not-is_paired.true in absurd (cc))

pub returns : goal.returns
returns c = all-paired c.args.keys.now c.loop-i.i (omega (arith, c.loop-i-test.false)) c.loop-i.invariant
