-- How a volume reads where files keep their nodes and its links changed.
use Rattle.std.proofs.Common.{Bool, List, ap, cond, false, filter, not, sym, ℕ, ◌==◌, ◌||◌, ◌∙◌, ◌∷◌, ◌≡◌}
use Rattle.std.specs.Cmp.{nat_cmp_total}
use Rattle.std.specs.List.{Contains}
use Rattle.std.proofs.lemmas.List.Elements.{filter_agree}
use Rattle.list_laws.specs.Ordered.{in_order}
use Rattle.list_laws.specs.SameItems.{SameItems}
use Rattle.list_laws.proofs.AlikeLaws.{in_order-alike}
use Rattle.list_laws.proofs.FilterLaws.{filter-all, filter-swap}
use Rattle.list_laws.proofs.SameItemsLaws.{SameItems-filter}
use Rattle.ntfs_def.specs.declared.records.TheConstants.{ROOT}
use Rattle.volume_def.specs.CaseClause.{volume_fold}
use Rattle.volume_def.specs.Files.{records_of}
use Rattle.volume_def.specs.View.{VolumeView}
use Rattle.tree_model.specs.Drops.{is_link}
use Rattle.tree_model.specs.Effects.{add_link}
use Rattle.tree_model.specs.Hidden.{is_hidden}
use Rattle.tree_model.specs.Reading.{all_links, is_hidden_link, links_that, node_at, read, tree_nodes}
use Rattle.tree_model.specs.Tree.{link_above}
use Rattle.tree_model.specs.declared.tree.Link.{Link}
use Rattle.tree_model.proofs.LeastLaws.{filter-in_order}
use Rattle.tree_model.proofs.LinkOrder.{link_order}
use Rattle.tree_model.proofs.ReadingLaws.{get-nodes}
use Rattle.name_edits.proofs.SameLink.{is_link-itself}
use Rattle.reading_edits.specs.Steps.{without_link}
use Rattle.std.specs.FinMap as finmap

-- all nodes stay
pub nodes-same : (old new : VolumeView) → ((f : ℕ) → node_at new f ≡ node_at old f) → tree_nodes new ≡ tree_nodes old
nodes-same old new same =
    finmap.same_map nat_cmp_total finmap.nat_cmp-IsAntisymmetric _ _ (λ q. get-nodes new q ∙ same q ∙ sym (get-nodes old q))

-- Where names are compared as before, and what was hidden is.
module _ (old new : VolumeView) (fold : volume_fold new ≡ volume_fold old)
    (hides : (f : ℕ) → is_hidden (records_of new) f ≡ is_hidden (records_of old) f) where
  hidden-same : (link : Link) → is_hidden_link new link ≡ is_hidden_link old link
  hidden-same link = ap (λ b. (link.child == ROOT) || b) (hides link.child)

  shown-same : (link : Link) → not (is_hidden_link new link) ≡ not (is_hidden_link old link)
  shown-same link = ap not (hidden-same link)

  abbrev ordered : List Link → List Link
  ordered xs = in_order (link_above (volume_fold old)) xs

  that-same : (p q : Link → Bool) → ((link : Link) → q link ≡ p link) → (xs : List Link) → SameItems xs (all_links new)
      → links_that new q ≡ ordered (filter p xs)
  that-same p q same xs h =
      ap (λ by. in_order (link_above by) (filter q (all_links new))) fold
      ∙ ap ordered (filter_agree q p same (all_links new))
      ∙ in_order-alike (link_order (volume_fold old)) (filter p xs) (filter p (all_links new)) (SameItems-filter p xs (all_links new) h)

  abbrev shown : Link → Bool
  shown link = not (is_hidden_link old link)

  -- no link came or went
  pub read-links : SameItems (all_links old) (all_links new) → read new ≡ record (read old) { nodes = tree_nodes new }
  unfolding read
  read-links h =
      let links = that-same shown (λ link. not (is_hidden_link new link)) shown-same (all_links old) h in
      let hidden = that-same (is_hidden_link old) (is_hidden_link new) hidden-same (all_links old) h in
      λ i. record { fold = fold i; nodes = tree_nodes new; links = links i; hidden = hidden i }

  -- one came that is shown
  pub read-linked : (link : Link) → is_hidden_link old link ≡ false → SameItems (link ∷ all_links old) (all_links new)
      → read new ≡ add_link link (record (read old) { nodes = tree_nodes new })
  unfolding read
  read-linked link seen h =
      let links = that-same shown (λ link. not (is_hidden_link new link)) shown-same (link ∷ all_links old) h
      ∙ ap (λ b. ordered (cond b (link ∷ filter shown (all_links old)) (filter shown (all_links old)))) (ap not seen) in
      let hidden = that-same (is_hidden_link old) (is_hidden_link new) hidden-same (link ∷ all_links old) h
      ∙ ap (λ b. ordered (cond b (link ∷ filter (is_hidden_link old) (all_links old))
      (filter (is_hidden_link old) (all_links old)))) seen in
      λ i. record { fold = fold i; nodes = tree_nodes new; links = links i; hidden = hidden i }

  -- one went that was shown, and no other is the same
  pub read-unlinked : (link : Link) → is_hidden_link old link ≡ false → SameItems (link ∷ all_links new) (all_links old)
      → ((other : Link) → Contains (all_links new) other → is_link link other ≡ false)
      → read new ≡ without_link link (record (read old) { nodes = tree_nodes new })
  unfolding read
  read-unlinked link seen h once =
      let stays : Link → Bool = λ other. not (is_link link other) in
      let order = link_order (volume_fold old) in
      -- what was there, by what is there
      let before : (p : Link → Bool) → ordered (filter p (all_links old)) ≡ ordered (filter p (link ∷ all_links new)) = λ p.
      in_order-alike order (filter p (link ∷ all_links new)) (filter p (all_links old))
      (SameItems-filter p (link ∷ all_links new) (all_links old) h) in
      let now : links_that new (λ link. not (is_hidden_link new link)) ≡ ordered (filter shown (all_links new)) =
      ap (λ by. in_order (link_above by) (filter (λ link. not (is_hidden_link new link)) (all_links new))) fold
      ∙ ap ordered (filter_agree (λ link. not (is_hidden_link new link)) shown shown-same (all_links new)) in
      let hidden_now : links_that new (is_hidden_link new) ≡ ordered (filter (is_hidden_link old) (all_links new)) =
      ap (λ by. in_order (link_above by) (filter (is_hidden_link new) (all_links new))) fold
      ∙ ap ordered (filter_agree (is_hidden_link new) (is_hidden_link old) hidden-same (all_links new)) in
      let without : filter stays (ordered (filter shown (all_links old))) ≡ ordered (filter shown (all_links new)) =
      ap (filter stays) (before shown
      ∙ ap (λ b. ordered (cond b (link ∷ filter shown (all_links new)) (filter shown (all_links new)))) (ap not seen))
      ∙ filter-in_order order stays (link ∷ filter shown (all_links new))
      ∙ ap (λ b. ordered (cond b (link ∷ filter stays (filter shown (all_links new))) (filter stays (filter shown (all_links new)))))
      (ap not (is_link-itself link))
      ∙ ap ordered (filter-swap stays shown (all_links new)
      ∙ ap (filter shown) (filter-all stays (all_links new) (λ other c. ap not (once other c)))) in
      let hidden_same : ordered (filter (is_hidden_link old) (all_links old)) ≡ ordered (filter (is_hidden_link old) (all_links new)) =
      before (is_hidden_link old)
      ∙ ap (λ b. ordered (cond b (link ∷ filter (is_hidden_link old) (all_links new))
      (filter (is_hidden_link old) (all_links new)))) seen in
      let links = now ∙ sym without in
      let hidden = hidden_now ∙ sym hidden_same in
      λ i. record { fold = fold i; nodes = tree_nodes new; links = links i; hidden = hidden i }
