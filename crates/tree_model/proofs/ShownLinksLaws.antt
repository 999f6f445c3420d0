-- The links that lead to a file, as `links` shows them.
use Rattle.std.proofs.Common.{◌≡◌, ◌≢◌, ℕ, ◌==◌, not, Bool, true, false, cond, List, [], ◌∷◌, map, Some, refl, ap, ◌∙◌}
use Rattle.std.specs.Prelude.{filter}
use Rattle.ntfs_def.specs.declared.records.TheConstants.{ROOT}
use Rattle.volume_def.specs.CaseClause.{volume_fold}
use Rattle.volume_def.specs.View.{VolumeView}
use Rattle.tree_model.specs.Answers.{path_above, shown_link, shown_links}
use Rattle.list_laws.specs.Ordered.{in_order, put_in_order}
use Rattle.tree_model.specs.Reading.{all_links, is_hidden_link, links_to, node_at, read}
use Rattle.tree_model.specs.Tree.{leads_to, link_above}
use Rattle.tree_model.specs.declared.tree.Link.{Link}
use Rattle.tree_model.specs.declared.tree.Node.{Node}
use Rattle.tree_model.proofs.LeastLaws.{filter-in_order}
use Rattle.tree_model.proofs.LinkOrder.{link_order}
use Rattle.tree_model.proofs.NamesLaws.{links-read}

-- a rule that keeps the order
put-map : {A B : Type 0} (g : A → B) (a : A → A → Bool) (b : B → B → Bool) → ((x y : A) → a x y ≡ b (g x) (g y)) → (x : A) (ys : List A)
    → map g (put_in_order a x ys) ≡ put_in_order b (g x) (map g ys)
put-map g a b same x [] = refl
put-map g a b same x (y ∷ ys) =
    by (put-map g a b same x ys) (a x y)
    ∙ ap (λ s. cond s (g y ∷ put_in_order b (g x) (map g ys)) (g x ∷ g y ∷ map g ys)) (same x y)
  where
    by : map g (put_in_order a x ys) ≡ put_in_order b (g x) (map g ys) → (s : Bool)
        → map g (cond s (y ∷ put_in_order a x ys) (x ∷ y ∷ ys)) ≡ cond s (g y ∷ put_in_order b (g x) (map g ys)) (g x ∷ g y ∷ map g ys)
    by rest true = ap (λ l. g y ∷ l) rest
    by rest false = refl

pub in_order-map : {A B : Type 0} (g : A → B) (a : A → A → Bool) (b : B → B → Bool) → ((x y : A) → a x y ≡ b (g x) (g y)) → (xs : List A)
    → map g (in_order a xs) ≡ in_order b (map g xs)
in_order-map g a b same [] = refl
in_order-map g a b same (x ∷ xs) = put-map g a b same x (in_order a xs) ∙ ap (put_in_order b (g x)) (in_order-map g a b same xs)

-- a file that is shown, but the root, has its names
pub shown-names : (view : VolumeView) (file : ℕ) (node : Node) → node_at view file ≡ Some node → file ≢ ROOT
    → shown_links (read view) file
    ≡ in_order path_above (map (shown_link (read view)) (in_order (link_above (volume_fold view)) (links_to view file)))
unfolding shown_links
shown-names view file node at ne = ap (λ links. in_order path_above (map (shown_link (read view)) links)) (links-read view file node at ne)

-- and the root has none that is shown
none-root : (view : VolumeView) (xs : List Link) → filter (leads_to ROOT) (filter (λ link. not (is_hidden_link view link)) xs) ≡ []
none-root view [] = refl
none-root view (x ∷ xs) = by (none-root view xs) (x.child == ROOT) refl
  where
    by : filter (leads_to ROOT) (filter (λ link. not (is_hidden_link view link)) xs) ≡ [] → (b : Bool) → (x.child == ROOT) ≡ b
        → filter (leads_to ROOT) (filter (λ link. not (is_hidden_link view link)) (x ∷ xs)) ≡ []
    by rest true b = rw b rest
    by rest false b = past rest b (not (is_hidden_link view x))
      where
        past : filter (leads_to ROOT) (filter (λ link. not (is_hidden_link view link)) xs) ≡ [] → (x.child == ROOT) ≡ false → (s : Bool)
            → filter (leads_to ROOT) (cond s (x ∷ filter (λ link. not (is_hidden_link view link)) xs)
            (filter (λ link. not (is_hidden_link view link)) xs)) ≡ []
        past rest b true = rw b rest
        past rest b false = rest

pub shown-root : (view : VolumeView) → shown_links (read view) ROOT ≡ []
unfolding shown_links read
shown-root view =
    ap (λ links. in_order path_above (map (shown_link (read view)) links))
    (filter-in_order (link_order (volume_fold view)) (leads_to ROOT) (filter (λ link. not (is_hidden_link view link)) (all_links view))
    ∙ ap (in_order (link_above (volume_fold view))) (none-root view (all_links view)))
