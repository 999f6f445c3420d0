use Rattle.std.proofs.Common.{rules, tests, ◌≡◌, ◌*◌, ◌/◌, length, refl, arith}
use Rattle.std.specs.Ordering.{nat_cmp}
use Rattle.std.proofs.lemmas.Iterator.{YieldsList-from_map, YieldsList-from_range}
use Rattle.std.proofs.lemmas.Iterator.Consumers.{YieldsList-at}
use Rattle.std.proofs.lemmas.Iterator.Search.{cmp_from_yields_List}
use Rattle.vol_bytes.specs.Field.{u32_at}
use Rattle.collation.proofs.numbers.compare_words.Goals as goal

pub returns : goal.returns
returns c =
    let a = c.args.a.now in
    let b = c.args.b.now in
    cmp_from_yields_List (λ x y. y ≡ x) _ nat_cmp _ c.cmp.ensures.ran
    (YieldsList-from_map _ (λ k. u32_at a (4 * k))
    (YieldsList-from_range 0 (length a / 4) (length a / 4) c.map-words.ensures.source (omega arith))
    c.map-words.ensures.closure (λ x r q k. search (rules, tests)))
    (λ it e. YieldsList-at e (YieldsList-from_map _ (λ k. u32_at b (4 * k))
    (YieldsList-from_range 0 (length b / 4) (length b / 4) c.map-others.ensures.source (omega arith))
    c.map-others.ensures.closure (λ x r q k. search (rules, tests))))
    (λ x y. refl)
