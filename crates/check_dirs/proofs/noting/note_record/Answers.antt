use Rattle.std.proofs.Common.{◌++◌, ◌<◌, length, map, ap, sym, subst, ◌∙◌, arith}
use Rattle.std.specs.Option.{option_to_list}
use Rattle.std.proofs.lemmas.List.{length-append, take_all}
use Rattle.ntfs_def.specs.Attribute.{attributes}
use Rattle.ntfs_def.specs.Record.{reference_in}
use Rattle.volume_def.specs.Files.{part_of}
use Rattle.attr_view.specs.Left.{attributes_left}
use Rattle.attr_view.specs.View.{attribute_of}
use Rattle.check_dirs.specs.Noted.{NotesNames, note_in}
use Rattle.check_dirs.proofs.NoteLaws.{NotesNames-none, next-attribute, next-there, record-more}
use Rattle.check_dirs.proofs.noting.note_record.Goals as goal

pub loop-place-init : goal.loop-place-init
loop-place-init c = record {
  left = c.attributes-attributes.ensures ∙ ap attributes c.view.ensures;
  grows = omega arith;
  noted = λ view is. NotesNames-none view (reference_in c.args.file) c.args.names.now.items;
}

pub loop-place-preserved : goal.loop-place-preserved
loop-place-preserved c =
    let held = c.args.held.now in
    let all = attributes held.block in
    let place = c.loop-place.place in
    let mid = c.loop-place.names.items in
    let a = attribute_of c.in-Some.attribute in
    let inside : place < length all = omega (arith, c.loop-place-test.true, c.count-place-end.ensures.count) in
    let (at, left) = next-attribute all place inside a (attributes_left c.next.new.self)
    (sym c.loop-place.invariant.left ∙ c.in-Some.ensures.steps) in
    let added = c.in_ok-note_attribute.ensures
    ∙ ap (λ n. mid ++ option_to_list (note_in c.args.file n place a)) c.number.ensures in
    let longer = length-append mid (option_to_list (note_in c.args.file held.number place a)) in
    record {
      left = sym left;
      grows = omega (arith, c.loop-place.invariant.grows, ap length added, longer);
      noted = λ view is.
          record-more view c.args.file held is place a c.args.names.now.items mid c.note_attribute.new.names.items at
          (c.loop-place.invariant.noted view is) added;
    }

pub returns-in_default-clause-noted : goal.returns-in_default-clause-noted
returns-in_default-clause-noted c =
    let all = attributes c.args.held.now.block in
    let inside : c.loop-place.place < length all = omega (arith, c.loop-place-test.true, c.count-place-end.ensures.count) in
    absurd (next-there all c.loop-place.place inside (sym c.loop-place.invariant.left ∙ c.in_default.ensures.steps.0))

pub returns-clause-noted : goal.returns-clause-noted
returns-clause-noted c = λ view is.
    let held = c.args.held.now in
    subst (λ xs. NotesNames view (reference_in c.args.file) (map (part_of held.number) xs) c.args.names.now.items c.loop-place.names.items)
    (take_all c.loop-place.place (attributes held.block) (omega arith)) (c.loop-place.invariant.noted view is)
