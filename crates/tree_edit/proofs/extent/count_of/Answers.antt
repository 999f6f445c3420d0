use Rattle.std.proofs.Common.{◌+◌, count_by, drop, sym, ap, ◌∙◌, arith}
use Rattle.std.proofs.lemmas.List.{drop_all}
use Rattle.list_laws.proofs.FindLaws.{count-no, count-yes}
use Rattle.volume_def.specs.Files.{is_of, part_of}
use Rattle.attr_view.specs.View.{attribute_of}
use Rattle.file_record.specs.Held.{attributes_held, parts_held}
use Rattle.file_record.specs.Left.{attributes_left}
use Rattle.sparse_io.proofs.FirstLaws.{AreHeld-at, AreHeld-end, AreHeld-file}
use Rattle.tree_edit.proofs.extent.count_of.Goals as goal
use Rattle.tree_edit.proofs.extent.count_of.Goals.{then-is_of, else-is_of}

pub returns-in_default : goal.returns-in_default
returns-in_default c =
    let file = c.args.file.now in
    let end = AreHeld-end c.loop-index.index (attributes_held file) (parts_held file) (AreHeld-file file)
    (sym c.loop-index.invariant.left ∙ c.in_default.ensures.steps.0) in
    omega (arith, ap (count_by (is_of c.args.kind c.args.name.now)) end, c.loop-index.invariant.counted)

pub loop-index-preserved : goal.loop-index-preserved
loop-index-preserved c =
    let file = c.args.file.now in
    let index = c.loop-index.index in
    let test = is_of c.args.kind c.args.name.now in
    let rest = drop (index + 1) (parts_held file) in
    let (n, at, here, behind) = AreHeld-at index (attributes_held file) (parts_held file) (attribute_of c.in-Some.attribute)
    (attributes_left c.next.new.self) (AreHeld-file file) (sym c.loop-index.invariant.left ∙ c.in-Some.ensures.steps) in
    let part = part_of n (attribute_of c.in-Some.attribute) in
    let before = ap (count_by test) here in
    elim c.if-is_of.branch [
      | then-is_of w ↦
          let more = count-yes test part rest (sym (c.is_of.ensures n) ∙ w.if-is_of.true) in
          record {
            left = sym behind;
            counted = omega (arith, before, more, c.loop-index.invariant.counted, w.count-is);
            few = omega (arith, c.loop-index.invariant.few, w.count-is);
          }
      | else-is_of w ↦
          let same = count-no test part rest (sym (c.is_of.ensures n) ∙ w.if-is_of.false) in
          record {
            left = sym behind;
            counted = omega (arith, before, same, c.loop-index.invariant.counted, w.count-is);
            few = omega (arith, c.loop-index.invariant.few, w.count-is);
          }
    ]

pub returns : goal.returns
returns c =
    let end = drop_all c.loop-index.index (parts_held c.args.file.now) (omega (arith, c.count-index-end.ensures)) in
    omega (arith, ap (count_by (is_of c.args.kind c.args.name.now)) end, c.loop-index.invariant.counted)
