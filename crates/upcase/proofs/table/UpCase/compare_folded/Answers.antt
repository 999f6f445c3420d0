use Rattle.std.proofs.Common.{rules, tests, ◌≡◌, refl}
use Rattle.std.specs.Ordering.{nat_cmp}
use Rattle.std.proofs.lemmas.Iterator.{YieldsList-from_map, YieldsList-from_slice}
use Rattle.std.proofs.lemmas.Iterator.Consumers.{YieldsList-at}
use Rattle.std.proofs.lemmas.Iterator.Search.{cmp_from_yields_List}
use Rattle.ntfs_def.specs.KeyOrder.{fold_of}
use Rattle.upcase.proofs.table.UpCase.compare_folded.Goals as goal

pub returns : goal.returns
returns c =
    cmp_from_yields_List (λ x y. y ≡ x) _ nat_cmp _ c.cmp.ensures.ran
    (YieldsList-from_map _ (fold_of c.args.self.now) (YieldsList-at c.map-folded.ensures.source
    (YieldsList-from_slice c.args.a.now c.iter.ensures.rest)) c.map-folded.ensures.closure (λ x r q k. search (rules, tests)))
    (λ it e. YieldsList-at e (YieldsList-from_map _ (fold_of c.args.self.now) (YieldsList-at c.map.ensures.source
    (YieldsList-from_slice c.args.b.now c.iter-2.ensures.rest)) c.map.ensures.closure (λ x r q k. search (rules, tests))))
    (λ x y. refl)
