use Rattle.std.proofs.Common.{◌≡◌, ℕ, List, false, length, sym, ap, subst, ◌∙◌, arith, true≢false}
use Rattle.std.specs.Prelude.{is_some}
use Rattle.std.specs.declared.cmp.Ordering.{Ordering}
use Rattle.ntfs_def.specs.Node.{Node, child_from, has_children, whole_of}
use Rattle.list_laws.proofs.OptionLaws.{some_same}
use Rattle.index_node.specs.Seek.{IsPlace}
use Rattle.index_node.specs.View.{node_of_view, number_of}
use Rattle.index_node.proofs.SpanLaws.{child_some}
use Rattle.index_puts.proofs.RootLaws.{child_from-end}
use Rattle.root_puts.proofs.value.seek_root.Goals as goal

pub returns-in-Some-child-clause-none : goal.returns-in-Some-child-clause-none
returns-in-Some-child-clause-none g c = λ leaf.
    let view = c.in-Ok.node in
    let here = node_of_view view in
    let i = number_of c.in-Some.place in
    let leads : c.child.result ≡ child_from here.entries here.last i =
    c.child.ensures ∙ ap (λ v. child_from (node_of_view v).entries (node_of_view v).last i) c.in-Some.ensures.view in
    let same : here ≡ leaf.said = some_same (sym (ap whole_of c.in-Ok.ensures.ok) ∙ leaf.is) in
    let end = child_some view (length here.entries) (omega arith) in
    let none : is_some (child_from here.entries here.last (length here.entries)) ≡ false =
    ap is_some (child_from-end here.entries here.last ∙ ap (λ (n : Node). n.last) same ∙ leaf.last) in
    let some = child_some view i c.in-Some.ensures.place.within in
    absurd (true≢false (sym (ap is_some c.in-Some-child.is) ∙ ap is_some leads ∙ some ∙ sym end ∙ none))

pub returns-in-None-clause-some : goal.returns-in-None-clause-some
returns-in-None-clause-some g c =
    let view = c.in-Ok.node in
    let here = node_of_view view in
    let side : List ℕ → Ordering = λ x. g.C.Collation.order c.args.order.now x c.args.key.now in
    let at = number_of c.in-Some.place in
    let i = c.number.result in
    let place = subst (λ k. IsPlace side here.entries k c.in-Some.field-0-1) (sym c.number.ensures) c.in-Some.ensures.place in
    let leads : c.child.result ≡ child_from here.entries here.last at =
    c.child.ensures ∙ ap (λ v. child_from (node_of_view v).entries (node_of_view v).last at) c.in-Some.ensures.view in
    record {
      place = record { said = here; is = ap whole_of c.in-Ok.ensures.ok; within = place.within };
      leaf =
          sym (child_some view at c.in-Some.ensures.place.within ∙ ap has_children c.in-Ok.ensures.bytes)
          ∙ sym (ap is_some leads) ∙ ap is_some c.in-None.is;
      hit = c.in-Some.field-0-1;
      found = λ said is.
          let same : here ≡ said = some_same (sym (ap whole_of c.in-Ok.ensures.ok) ∙ is) in
          subst (λ (m : Node). IsPlace side m.entries i c.in-Some.field-0-1) same place;
    }
