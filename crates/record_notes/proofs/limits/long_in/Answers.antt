use Rattle.std.proofs.Common.{sym, ◌∙◌}
use Rattle.std.proofs.lemmas.Bool.{false≢true}
use Rattle.attr_view.specs.View.{viewed_block}
use Rattle.volume_def.specs.Files.{record_of}
use Rattle.record_notes.proofs.LimitLaws.{BreaksLimits-one, KeepsLimits-one}
use Rattle.record_notes.proofs.limits.long_in.Goals as goal

pub returns-then-are_in_limits : goal.returns-then-are_in_limits
returns-then-are_in_limits c = λ records at.
    KeepsLimits-one records c.args.n (record_of c.args.n (viewed_block c.args.view.now)) at c.file_of-file.result c.file_of-file.ensures
    ((c.are_in_limits.ensures c.args.n).0 c.if-are_in_limits.true)

pub returns : goal.returns
returns c = λ records at.
    BreaksLimits-one records c.args.n (record_of c.args.n (viewed_block c.args.view.now)) at c.file_of-file.result c.file_of-file.ensures
    (λ all. false≢true (sym c.if-are_in_limits.false ∙ (c.are_in_limits.ensures c.args.n).1 all))
