use Rattle.std.proofs.Common.{sym, ◌∙◌}
use Rattle.record_notes.proofs.unlisted.is_unlisted_whole.Goals as goal

pub returns : goal.returns
returns c = (
  λ t only. c.in_ok-whole.ensures.whole.0 t,
  λ right. c.in_ok-whole.ensures.whole.1 (right (sym (c.is_unlisted.ensures c.args.n) ∙ c.if-not-is_unlisted.false)),
)
