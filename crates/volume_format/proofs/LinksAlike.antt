-- Links with names of ASCII are in order by one folding as by another that agrees with it on ASCII.
use Rattle.std.proofs.Common.{◌≡◌, ℕ, Bool, true, List, ap}
use Rattle.std.specs.List.{list_all}
use Rattle.std.specs.Ordering.{is_gt, nat_cmp, ordering_then}
use Rattle.list_laws.specs.Ordered.{in_order}
use Rattle.tree_model.specs.Tree.{link_above}
use Rattle.tree_model.specs.declared.tree.Link.{Link}
use Rattle.list_laws.proofs.OrderedLaws.{ordered-alike}
use Rattle.volume_format.proofs.IndexOrder.{AgreeOnAscii, are_ascii, units-same}

abbrev pub has_ascii : Link → Bool
has_ascii link = are_ascii link.name

module _ (f g : ℕ → ℕ) (agree : AgreeOnAscii f g) where
  above-same : (a b : Link) → has_ascii a ≡ true → has_ascii b ≡ true → link_above f a b ≡ link_above g a b
  above-same a b ascii_a ascii_b =
      ap (λ names. is_gt (ordering_then (nat_cmp a.parent b.parent)
      (ordering_then names (ordering_then (nat_cmp a.space b.space) (nat_cmp a.child b.child)))))
      (units-same f g agree a.name b.name ascii_a ascii_b)

  pub links-alike : (links : List Link) → list_all has_ascii links ≡ true → in_order (link_above f) links ≡ in_order (link_above g) links
  links-alike links all = ordered-alike (link_above f) (link_above g) has_ascii above-same links all
