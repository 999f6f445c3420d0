use Rattle.std.proofs.Common.{◌/◌, ◌%◌, sym, ◌∙◌, ap}
use Rattle.index_node.proofs.NodeLaws.{entry_is, last_is, none_data, none_last, none_whole}
use Rattle.index_node.proofs.shape.standing_at.Goals as goal

pub returns-in_default : goal.returns-in_default
returns-in_default c = none_whole c.args.form c.args.node.now c.args.children c.args.end c.args.at (sym c.in_default.ensures.whole)

pub returns-then-header-eq0 : goal.returns-then-header-eq0
returns-then-header-eq0 c =
    let fields = c.in-Some.ensures.fields in
    last_is c.args.form c.args.node.now c.args.children c.args.end c.args.at (sym c.in-Some.ensures.whole)
    (ap (λ f. f / 2 % 2) (sym fields.flags) ∙ c.if-header-eq1.true) (sym fields.key ∙ c.if-header-eq0.true)

pub returns-else-header-eq0 : goal.returns-else-header-eq0
returns-else-header-eq0 c =
    let fields = c.in-Some.ensures.fields in
    none_last c.args.form c.args.node.now c.args.children c.args.end c.args.at
    (ap (λ f. f / 2 % 2) (sym fields.flags) ∙ c.if-header-eq1.true) (λ e. c.if-header-eq0.false (fields.key ∙ e))

pub returns-then-holds_data : goal.returns-then-holds_data
returns-then-holds_data c =
    let fields = c.in-Some.ensures.fields in (
      entry_is c.args.form c.args.node.now c.args.children c.args.end c.args.at (sym c.in-Some.ensures.whole)
          (λ e. c.if-header-eq1.false (ap (λ f. f / 2 % 2) fields.flags ∙ e)) (sym c.if-holds_data.ensures),
      fields.len,
    )

pub returns-else-holds_data : goal.returns-else-holds_data
returns-else-holds_data c =
    let fields = c.in-Some.ensures.fields in
    none_data c.args.form c.args.node.now c.args.children c.args.end c.args.at
    (λ e. c.if-header-eq1.false (ap (λ f. f / 2 % 2) fields.flags ∙ e)) (sym c.if-holds_data.ensures)
