use Rattle.std.proofs.Common.{arith}
use Rattle.cmd_lang.proofs.VerbLaws.{one_more, is_none, all}
use Rattle.cmd_lang.proofs.verb.verb_of.Goals as goal

pub verbs-preserved : goal.verbs-preserved
verbs-preserved c = one_more c.args.word.now all c.verbs.verb-index _ c.verbs.invariant (omega (arith, c.verbs-test.true))
    (λ e. let h = c.is_word_of.ensures.1 e in let no = c.if-is_word_of.false in cc)

pub returns : goal.returns
returns c = λ which. is_none c.args.word.now (λ k d h. c.verbs.invariant k d (omega
    (arith, h, c.verbs-test.false, c.verbs.auto.verb-index-end))) which
