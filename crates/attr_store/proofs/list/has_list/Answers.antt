use Rattle.std.proofs.Common.{◌+◌, ◌||◌, drop, refl, sym, ap, ◌∙◌, arith}
use Rattle.std.specs.List.{list_any}
use Rattle.std.proofs.lemmas.Bool.{eq-eqb, ne_eqb}
use Rattle.std.proofs.lemmas.List.{drop_all}
use Rattle.ntfs_def.specs.declared.kinds.TheConstants.{ATTRIBUTE_LIST}
use Rattle.attr_view.specs.View.{attribute_of}
use Rattle.volume_def.specs.ListsClause.{is_list}
use Rattle.file_record.specs.Held.{attributes_held, parts_held}
use Rattle.file_record.specs.Left.{attributes_left}
use Rattle.attr_store.proofs.FirstLaws.{AreHeld-at, AreHeld-end, AreHeld-file}
use Rattle.attr_store.proofs.list.has_list.Goals as goal

pub loop-index-init : goal.loop-index-init
loop-index-init c = record { left = c.attributes-attributes.ensures; found = refl }

pub returns-in_default : goal.returns-in_default
returns-in_default c =
    let file = c.args.file.now in
    let end = AreHeld-end c.loop-index.index (attributes_held file) (parts_held file) (AreHeld-file file)
    (sym c.loop-index.invariant.left ∙ c.in_default.ensures.steps.0) in
    sym (ap (list_any is_list) end) ∙ c.loop-index.invariant.found

pub returns-then-kind-eq-ATTRIBUTE_LIST : goal.returns-then-kind-eq-ATTRIBUTE_LIST
returns-then-kind-eq-ATTRIBUTE_LIST c =
    let file = c.args.file.now in
    let index = c.loop-index.index in
    let a = attribute_of c.in-Some.attribute in
    let (n, at, here, behind) = AreHeld-at index (attributes_held file) (parts_held file) a (attributes_left c.next.new.self)
    (AreHeld-file file) (sym c.loop-index.invariant.left ∙ c.in-Some.ensures.steps) in
    let rest = list_any is_list (drop (index + 1) (parts_held file)) in
    let kind = eq-eqb a.kind ATTRIBUTE_LIST (sym c.kind.ensures ∙ c.if-kind-eq-ATTRIBUTE_LIST.true) in
    sym (sym c.loop-index.invariant.found ∙ ap (list_any is_list) here ∙ ap (λ b. b || rest) kind)

pub loop-index-preserved : goal.loop-index-preserved
loop-index-preserved c =
    let file = c.args.file.now in
    let index = c.loop-index.index in
    let a = attribute_of c.in-Some.attribute in
    let (n, at, here, behind) = AreHeld-at index (attributes_held file) (parts_held file) a (attributes_left c.next.new.self)
    (AreHeld-file file) (sym c.loop-index.invariant.left ∙ c.in-Some.ensures.steps) in
    let rest = list_any is_list (drop (index + 1) (parts_held file)) in
    let kind = ne_eqb a.kind ATTRIBUTE_LIST (λ e. c.if-kind-eq-ATTRIBUTE_LIST.false (c.kind.ensures ∙ e)) in
    record {
      left = sym behind;
      found = sym (ap (list_any is_list) here ∙ ap (λ b. b || rest) kind) ∙ c.loop-index.invariant.found;
    }

pub returns : goal.returns
returns c =
    let file = c.args.file.now in
    let end = drop_all c.loop-index.index (parts_held file) (omega (arith, c.count-index-end.ensures)) in
    sym (ap (list_any is_list) end) ∙ c.loop-index.invariant.found
