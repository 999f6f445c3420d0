use Rattle.std.proofs.Common.{rules, tests, ◌≡◌, ◌+◌, ◌*◌, ◌/◌, length, refl, arith}
use Rattle.std.specs.Ordering.{nat_cmp}
use Rattle.std.proofs.lemmas.Iterator.{YieldsList-from_map, YieldsList-from_range}
use Rattle.std.proofs.lemmas.Iterator.Consumers.{YieldsList-at}
use Rattle.std.proofs.lemmas.Iterator.Search.{cmp_from_yields_List}
use Rattle.vol_bytes.specs.Field.{u16_at}
use Rattle.ntfs_def.specs.Units.{units_at}
use Rattle.attr_list.proofs.edit.compare_plain.Goals as goal

pub returns : goal.returns
unfolding units_at
returns c =
    let a = c.args.a.now in
    let b = c.args.b.now in
    cmp_from_yields_List (λ x y. y ≡ x) _ nat_cmp _ c.cmp.ensures.ran
    (YieldsList-from_map _ (λ k. u16_at a (0 + 2 * k))
    (YieldsList-from_range 0 (length a / 2) (length a / 2) c.map-units.ensures.source (omega arith))
    c.map-units.ensures.closure (λ x r q k. search (rules, tests)))
    (λ it e. YieldsList-at e (YieldsList-from_map _ (λ k. u16_at b (0 + 2 * k))
    (YieldsList-from_range 0 (length b / 2) (length b / 2) c.map-others.ensures.source (omega arith))
    c.map-others.ensures.closure (λ x r q k. search (rules, tests))))
    (λ x y. refl)
