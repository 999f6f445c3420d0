-- The order of links is one in which each two that differ stand one above the other.
use Rattle.std.proofs.Common.{◌≡◌, ℕ, map, true, false, refl, sym, ap, ◌∙◌}
use Rattle.std.specs.declared.cmp.Ordering.{Ordering}
use Rattle.std.specs.declared.cmp.Ordering.TheVariants.{Less, Equal, Greater}
use Rattle.std.specs.Ordering.{ordering_reverse, is_gt}
use Rattle.std.specs.Cmp.{IsTotalOrder, nat_cmp_total, on_total, then_total}
use Rattle.std.specs.Cmp.Lexicographic.{lists_total}
use Rattle.std.specs.FinMap.{IsAntisymmetric, nat_cmp-IsAntisymmetric, slice_cmp-IsAntisymmetric}
use Rattle.list_laws.specs.Ordered.{IsOrder}
use Rattle.ntfs_def.proofs.KeyOrderLaws.{then_both}
use Rattle.tree_model.specs.declared.tree.Link.{Link}
use Rattle.tree_model.specs.Tree.{compare_links, link_above}

-- a total order in which only equal items tie
pub order : {A : Type 0} (cmp : A → A → Ordering) → IsTotalOrder cmp → IsAntisymmetric cmp → IsOrder (λ x y. is_gt (cmp x y))
order {A = A} cmp o same = record {
  one_way = λ x y h. one_way (cmp x y) (cmp y x) (o.antisymm y x) h;
  same = λ x y h k. same x y (tie (cmp x y) (cmp y x) (o.antisymm y x) h k);
  between = λ x y z h k. between x y z (cmp x z) (cmp y z) (cmp x y) refl refl refl h k;
}
  where
    one_way : (r s : Ordering) → s ≡ ordering_reverse r → is_gt r ≡ true → is_gt s ≡ false
    one_way Less s e h = cc
    one_way Equal s e h = cc
    one_way Greater s e h = ap is_gt e

    tie : (r s : Ordering) → s ≡ ordering_reverse r → is_gt r ≡ false → is_gt s ≡ false → r ≡ Equal
    tie Less s e h k = let g = ap is_gt e in cc
    tie Equal s e h k = refl
    tie Greater s e h k = cc

    between : (x y z : A) (r s t : Ordering) → cmp x z ≡ r → cmp y z ≡ s → cmp x y ≡ t → is_gt r ≡ true → is_gt s ≡ false
        → is_gt (cmp x y) ≡ true
    between x y z r s Greater xz yz xy h k = ap is_gt xy
    between x y z r s Equal xz yz xy h k = let e = o.congr x y z xy in let f = ap is_gt (sym xz ∙ e ∙ yz) in cc
    between x y z r Less Less xz yz xy h k = let e = o.trans x y z xy yz in let f = ap is_gt (sym xz ∙ e) in cc
    between x y z r Equal Less xz yz xy h k =
        let e = o.antisymm x y ∙ ap ordering_reverse (o.congr y z x yz) ∙ sym (o.antisymm x z) in
        let f = ap is_gt (sym xy ∙ e ∙ xz) in cc
    between x y z r Greater Less xz yz xy h k = cc

pub link_total : (fold : ℕ → ℕ) → IsTotalOrder (compare_links fold)
link_total fold =
    then_total (on_total (λ (l : Link). l.parent) nat_cmp_total)
    (then_total (on_total (λ (l : Link). l.name) (then_total (on_total (map fold) (lists_total nat_cmp_total)) (lists_total nat_cmp_total)))
    (then_total (on_total (λ (l : Link). l.space) nat_cmp_total) (on_total (λ (l : Link). l.child) nat_cmp_total)))

link_same : (fold : ℕ → ℕ) → IsAntisymmetric (compare_links fold)
link_same fold a b e =
    let p = then_both _ _ e in
    let n = then_both _ _ p.1 in
    let u = then_both _ _ n.0 in
    let s = then_both _ _ n.1 in
    λ i. record {
      parent = nat_cmp-IsAntisymmetric a.parent b.parent p.0 i;
      name = slice_cmp-IsAntisymmetric nat_cmp-IsAntisymmetric a.name b.name u.1 i;
      space = nat_cmp-IsAntisymmetric a.space b.space s.0 i;
      child = nat_cmp-IsAntisymmetric a.child b.child s.1 i;
    }

pub link_order : (fold : ℕ → ℕ) → IsOrder (link_above fold)
link_order fold = order (compare_links fold) (link_total fold) (link_same fold)
