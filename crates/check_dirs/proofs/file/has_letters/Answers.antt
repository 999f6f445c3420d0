use Rattle.std.proofs.Common.{sym, ◌∙◌, refl, arith}
use Rattle.std.proofs.lemmas.Bool.{true≢false}
use Rattle.check_dirs.proofs.FileLaws.{letters-count, letters-other, letters-same}
use Rattle.check_dirs.proofs.file.has_letters.Goals as goal

pub returns-then-key-letters : goal.returns-then-key-letters
returns-then-key-letters c = (
  λ e. absurd (true≢false (sym e)),
  λ same. let count = letters-count c.args.key.now c.args.letters.now same in absurd (omega (arith, count, c.if-key-letters.true)),
)

pub returns-then-u16_at-from : goal.returns-then-u16_at-from
returns-then-u16_at-from c = (
  λ e. absurd (true≢false (sym e)),
  λ same. absurd (letters-other c.args.key.now c.args.letters.now c.loop-i.i c.loop-i-test.true c.if-key-letters.false
      (λ e. c.if-u16_at-from.true (c.u16_at.ensures ∙ e ∙ sym c.from.ensures)) same),
)

pub returns : goal.returns
returns c = (
  λ _. letters-same c.args.key.now c.args.letters.now c.if-key-letters.false
      (λ k lt. c.loop-i.invariant k (omega (arith, lt, c.loop-i-test.false))),
  λ _. refl,
)
