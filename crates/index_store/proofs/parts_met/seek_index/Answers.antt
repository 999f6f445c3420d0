use Rattle.std.proofs.Common.{◌+◌, drop, refl, sym, subst, ◌∙◌}
use Rattle.ntfs_def.specs.declared.kinds.TheConstants.{BITMAP, INDEX_ALLOCATION}
use Rattle.attr_view.specs.View.{attribute_of}
use Rattle.attr_store.specs.Held.{attributes_held, parts_held}
use Rattle.attr_store.specs.Left.{attributes_left}
use Rattle.attr_store.proofs.FirstLaws.{AreHeld-at, AreHeld-end, AreHeld-file, sought-first}
use Rattle.index_store.specs.PartsMet.{ArePartsMet}
use Rattle.index_store.proofs.parts_met.seek_index.Goals as goal

pub loop-index-init : goal.loop-index-init
loop-index-init c = record {
  left = c.attributes-attributes.ensures;
  seen = record {
    root = refl;
    records = sym (sought-first INDEX_ALLOCATION c.args.name.now c.args.file.now);
    bits = sym (sought-first BITMAP c.args.name.now c.args.file.now);
  };
}

pub returns-in_default : goal.returns-in_default
returns-in_default c =
    let file = c.args.file.now in
    let end = AreHeld-end c.loop-index.index (attributes_held file) (parts_held file) (AreHeld-file file)
    (sym c.loop-index.invariant.left ∙ c.in_default.ensures.steps.0) in
    subst (λ left. ArePartsMet file c.args.name.now left c.loop-index.seen) end c.loop-index.invariant.seen

pub loop-index-preserved : goal.loop-index-preserved
loop-index-preserved c =
    let file = c.args.file.now in
    let index = c.loop-index.index in
    let (n, at, here, behind) = AreHeld-at index (attributes_held file) (parts_held file) (attribute_of c.in-Some.attribute)
    (attributes_left c.next.new.self) (AreHeld-file file) (sym c.loop-index.invariant.left ∙ c.in-Some.ensures.steps) in
    record {
      left = sym behind;
      seen = c.parts_with-seen.ensures file n (drop (index + 1) (parts_held file)) at
          (subst (λ left. ArePartsMet file c.args.name.now left c.loop-index.seen) here c.loop-index.invariant.seen);
    }
