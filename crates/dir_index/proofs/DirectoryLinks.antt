-- The links of a directory are what the items of its index say, in their order.
use Rattle.std.proofs.Common.{◌≡◌, ◌&&◌, not, ℕ, Bool, true, false, cond, List, [], ◌∷◌, map, filter, refl, sym, ap, ◌∙◌, inl, inr, arith}
use Rattle.std.specs.declared.cmp.Ordering.{Ordering}
use Rattle.std.specs.declared.cmp.Ordering.TheVariants.{Less, Equal}
use Rattle.std.specs.Ordering.{is_gt, nat_cmp, ordering_then}
use Rattle.std.specs.Cmp.{nat_cmp_total}
use Rattle.std.specs.List.{count_by}
use Rattle.std.proofs.lemmas.Bool.{cases_Bool, eqb-true}
use Rattle.std.proofs.lemmas.Cmp.{tied_itself}
use Rattle.std.proofs.lemmas.Simd.{map-map}
use Rattle.ntfs_def.specs.FileName.{Link, key_units, link_of, name_in, parent_reference}
use Rattle.ntfs_def.specs.IndexTree.{Ascends, Each}
use Rattle.ntfs_def.specs.KeyOrder.{compare_units, name_order}
use Rattle.ntfs_def.specs.Node.{Item}
use Rattle.volume_def.specs.CaseClause.{volume_fold}
use Rattle.volume_def.specs.FileNames.{is_in_directory, links}
use Rattle.volume_def.specs.Files.{records_of}
use Rattle.volume_def.specs.IndexesClause.{IsDirectoryIndex}
use Rattle.list_laws.specs.SameItems.{SameItems}
use Rattle.volume_def.specs.View.{VolumeView}
use Rattle.list_laws.proofs.FindLaws.{count-cons, count-none}
use Rattle.list_laws.proofs.MemberLaws.{filter-map}
use Rattle.list_laws.proofs.SameItemsLaws.{SameItems-map, SameItems-same, SameItems-trans, count-filter}
use Rattle.list_laws.specs.Ordered.{in_order}
use Rattle.tree_model.specs.Reading.{all_links, directory_links, link_by}
use Rattle.tree_model.specs.Tree.{is_in, link_above}
use Rattle.tree_model.proofs.LinkOrder.{link_order}
use Rattle.dir_index.specs.Links.{link_of_item}
use Rattle.dir_index.proofs.InOrder.{IsRising, in_order-same}

-- What a directory's test leaves stands in that directory.
module _ (dir : ℕ) where
  abbrev strays : Link → Bool
  strays link = not (is_in_directory dir link)

  and_not : (b : Bool) → (b && not b) ≡ false
  and_not true = refl
  and_not false = refl

  none_strays : (all : List Link) → count_by strays (filter (is_in_directory dir) all) ≡ 0
  none_strays all =
      count-filter (is_in_directory dir) strays all
      ∙ count-none (λ link. is_in_directory dir link && strays link) all (λ link c. and_not (is_in_directory dir link))

  abbrev pub StandsIn : Item → Type 0
  StandsIn x = (link_of x).name.parent.number ≡ dir

  each_stands : (items : List Item) → count_by strays (map link_of items) ≡ 0 → Each StandsIn items
  each_stands [] h = tt
  each_stands (x ∷ items) h = elim (cases_Bool (is_in_directory dir (link_of x))) [
    | inl t ↦
        let c = count-cons strays (link_of x) (map link_of items) in
        (eqb-true _ _ t, each_stands items (omega arith))
    | inr f ↦
        let c = count-cons strays (link_of x) (map link_of items) in
        let one : cond {A = ℕ} (strays (link_of x)) 1 0 ≡ 1 = ap (λ b. cond {A = ℕ} (not b) 1 0) f in
        absurd (omega arith)
  ]

  stand_in : (items : List Item) (all : List Link) → SameItems (map link_of items) (filter (is_in_directory dir) all) → Each StandsIn items
  stand_in items all same = each_stands items (sym (same.counts strays) ∙ none_strays all)

  module _ (fold : ℕ → ℕ) where
    -- the lower of two names in the directory is the lower link
    below : (x y : Item) → StandsIn x → StandsIn y → name_order fold x.key y.key ≡ Less
        → link_above fold (link_of_item x) (link_of_item y) ≡ false
    unfolding name_in name_order
    below x y px py e =
        let a = link_of_item x in
        let b = link_of_item y in
        let rest : Ordering = ordering_then (nat_cmp a.space b.space) (nat_cmp a.child b.child) in
        let tied : nat_cmp (parent_reference x.key).number (parent_reference y.key).number ≡ Equal =
        ap (nat_cmp (parent_reference x.key).number) (py ∙ sym px) ∙ tied_itself nat_cmp_total (parent_reference x.key).number in
        ap is_gt (ap (λ o. ordering_then o (ordering_then (compare_units fold (key_units x.key) (key_units y.key)) rest)) tied
        ∙ ap (λ o. ordering_then o rest) e)

    each_below : (x : Item) (ys : List Item) → StandsIn x → Each StandsIn ys → Each (λ (y : Item). name_order fold x.key y.key ≡ Less) ys
        → Each (λ link. link_above fold (link_of_item x) link ≡ false) (map link_of_item ys)
    each_below x [] h k e = tt
    each_below x (y ∷ ys) h k e = (below x y h k.0 e.0, each_below x ys h k.1 e.1)

    rising : (items : List Item) → Each StandsIn items → Ascends (name_order fold) items
        → IsRising (link_above fold) (map link_of_item items)
    rising [] h a = tt
    rising (x ∷ items) h a = (each_below x items h.0 h.1 a.0, rising items h.1 a.1)

-- THE LAW: the walk of a directory's index is its links.
pub links_are_items : (view : VolumeView) (dir : ℕ) (has : IsDirectoryIndex view dir)
    → directory_links view dir ≡ map link_of_item has.items
unfolding directory_links all_links
links_are_items view dir has =
    let fold = volume_fold view in
    let all = links (records_of view) in
    let those = filter (is_in_directory dir) all in
    let same = SameItems-trans (map link_of_item has.items) (map link_by (map link_of has.items)) (map link_by those)
    (SameItems-same _ _ (sym (map-map link_by link_of has.items))) (SameItems-map link_by (map link_of has.items) those has.names) in
    ap (in_order (link_above fold)) (filter-map link_by (is_in dir) all)
    ∙ in_order-same (link_order fold) (map link_of_item has.items) (map link_by those) same
    (rising dir fold has.items (stand_in dir has.items all has.names) has.index.ascending)
