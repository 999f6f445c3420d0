use Rattle.std.proofs.Common.{rules, tests, ◌≡◌, ℕ, List, map, refl, ap, ◌∙◌, arith}
use Rattle.std.specs.Prelude.{slice_index}
use Rattle.std.specs.List.{range_with_len}
use Rattle.std.specs.Ordering.{nat_cmp}
use Rattle.std.proofs.lemmas.Iterator.{YieldsList-from_map, YieldsList-from_range}
use Rattle.std.proofs.lemmas.Iterator.Consumers.{YieldsList-at}
use Rattle.std.proofs.lemmas.Iterator.Search.{cmp_from_yields_List}
use Rattle.ntfs_def.specs.KeyOrder.{by_numbers}
use Rattle.dir_index.specs.Sought.{sought_units}
use Rattle.list_laws.proofs.RangeLaws.{by_so_many}
use Rattle.dir_index.proofs.sought.compare_plain.Goals as goal

pub returns : goal.returns
returns c =
    let a : List ℕ = sought_units c.args.name.now c.args.a.now in
    let b : List ℕ = sought_units c.args.name.now c.args.b.now in
    let n = c.unit_count.result in
    let m = c.unit_count-2.result in
    cmp_from_yields_List (λ x y. y ≡ x) _ nat_cmp _ c.cmp.ensures.ran
    (YieldsList-from_map _ (slice_index a)
    (YieldsList-from_range 0 n n c.map-units.ensures.source (omega arith))
    c.map-units.ensures.closure (λ x r q k. search (rules, tests)))
    (λ it e. YieldsList-at e (YieldsList-from_map _ (slice_index b)
    (YieldsList-from_range 0 m m c.map-others.ensures.source (omega arith))
    c.map-others.ensures.closure (λ x r q k. search (rules, tests))))
    (λ x y. refl)
    ∙ ap (λ xs. by_numbers xs (map (slice_index b) (range_with_len 0 m))) (by_so_many a n c.unit_count.ensures)
    ∙ ap (by_numbers a) (by_so_many b m c.unit_count-2.ensures)
