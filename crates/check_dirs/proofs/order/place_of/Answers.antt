use Rattle.std.proofs.Common.{◌≡◌, ◌+◌, ◌-◌, ◌/◌, ◌<◌, ℕ, [], length, ap, sym, ◌∙◌, subst, arith}
use Rattle.std.specs.Prelude.{IsTrue}
use Rattle.ntfs_def.specs.Node.{item_in}
use Rattle.check_dirs.specs.Entries.{key_at}
use Rattle.check_dirs.proofs.OrderLaws.{all_above, all_below, valid_from_keys}
use Rattle.std.proofs.lemmas.List.{get_or_default}
use Rattle.check_dirs.proofs.order.place_of.Goals as goal

pub compare-requires-clause-left : goal.compare-requires-clause-left
compare-requires-clause-left g c =
    let entries = c.args.entries.now in
    let valid = g.C.Collation.valid c.args.order.now in
    let middle : ℕ = c.halves.low + (c.halves.high - c.halves.low) / 2 in
    let within : middle < length entries = omega (arith, c.halves-test.true, c.halves.invariant.inside) in
    let key : c.key_of.result.now ≡ key_at entries middle =
    c.key_of.ensures ∙ ap (λ x. (item_in x).key) (c.as_slice.ensures ∙ c.index-entries-middle.is
    ∙ get_or_default entries middle c.index-entries-middle.result [] within) in
    subst (λ k. IsTrue (valid k)) (sym key) (valid_from_keys valid entries c.requires.ordered.keys middle within)

pub halves-preserved-in-Less : goal.halves-preserved-in-Less
halves-preserved-in-Less g c =
    let entries = c.args.entries.now in
    let order = g.C.Collation.order c.args.order.now in
    let laws = g.met.C.Collation.is_order c.args.order.now in
    let middle : ℕ = c.halves.low + (c.halves.high - c.halves.low) / 2 in
    let inside = c.halves.invariant.inside in
    let within : middle < length entries = omega (arith, c.halves-test.true, inside) in
    let key : c.key_of.result.now ≡ key_at entries middle =
    c.key_of.ensures ∙ ap (λ x. (item_in x).key) (c.as_slice.ensures ∙ c.index-entries-middle.is
    ∙ get_or_default entries middle c.index-entries-middle.result [] within) in
    record {
      within = omega (arith, c.halves-test.true);
      inside = inside;
      below = all_below order laws entries c.requires.ordered.ascending c.args.key.now middle within
          (ap (λ k. order k c.args.key.now) (sym key) ∙ sym c.compare.ensures ∙ c.in-Less.is);
      above = c.halves.invariant.above;
    }

pub halves-preserved : goal.halves-preserved
halves-preserved g c =
    let entries = c.args.entries.now in
    let order = g.C.Collation.order c.args.order.now in
    let laws = g.met.C.Collation.is_order c.args.order.now in
    let middle : ℕ = c.halves.low + (c.halves.high - c.halves.low) / 2 in
    let inside = c.halves.invariant.inside in
    let within : middle < length entries = omega (arith, c.halves-test.true, inside) in
    let key : c.key_of.result.now ≡ key_at entries middle =
    c.key_of.ensures ∙ ap (λ x. (item_in x).key) (c.as_slice.ensures ∙ c.index-entries-middle.is
    ∙ get_or_default entries middle c.index-entries-middle.result [] within) in
    record {
      within = omega (arith, c.halves-test.true);
      inside = omega (arith, within);
      below = c.halves.invariant.below;
      above = all_above order laws entries c.requires.ordered.ascending c.args.key.now middle within
          (ap (λ k. order k c.args.key.now) (sym key) ∙ sym c.compare.ensures ∙ c.in-Greater.is);
    }
