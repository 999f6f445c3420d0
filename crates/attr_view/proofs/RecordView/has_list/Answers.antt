use Rattle.std.proofs.Common.{◌≡◌, false, true, rules, sym, ◌∙◌, true≢false}
use Rattle.std.specs.List.{list_any}
use Rattle.attr_view.specs.View.{attributes_of}
use Rattle.attr_view.proofs.ListedLaws.{is_list, others-alone, others-unlisted}
use Rattle.attr_view.proofs.RecordView.has_list.Goals as goal

pub returns-then-kind-eq-ATTRIBUTE_LIST-clause-some : goal.returns-then-kind-eq-ATTRIBUTE_LIST-clause-some
returns-then-kind-eq-ATTRIBUTE_LIST-clause-some c = λ _ others.
    let listed : list_any is_list (attributes_of c.args.self.now) ≡ true = search rules in
    true≢false (sym listed ∙ others-unlisted (attributes_of c.args.self.now) others)

pub returns-clause-none : goal.returns-clause-none
returns-clause-none c = λ _.
    let none : list_any is_list (attributes_of c.args.self.now) ≡ false = search rules in
    others-alone (attributes_of c.args.self.now) none
