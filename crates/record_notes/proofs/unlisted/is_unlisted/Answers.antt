use Rattle.std.proofs.Common.{◌&&◌, sym, ap, ◌∙◌, eq-eqb}
use Rattle.std.specs.Prelude.{not}
use Rattle.attr_view.specs.View.{viewed_block}
use Rattle.record_notes.proofs.UnlistedLaws.{unlisted-told}
use Rattle.record_notes.proofs.unlisted.is_unlisted.Goals as goal

pub returns-then-header-eq0 : goal.returns-then-header-eq0
returns-then-header-eq0 c = λ n. sym (
    unlisted-told n c.header.result.base (viewed_block c.args.view.now) c.has_list.result c.header.ensures.base c.has_list.ensures.has
    ∙ ap (λ b. b && not c.has_list.result) (eq-eqb c.header.result.base 0 c.if-header-eq0.true))
