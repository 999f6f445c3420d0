-- A NEW LINK leads to no file that was there: directories have the entries of such a file that they had.
use Rattle.std.proofs.Common.{◌≡◌, ◌≢◌, ◌==◌, ◌&&◌, ◌||◌, ℕ, Bool, true, false, List, [], ◌∷◌, cond, refl, sym, ap, ◌∙◌}
use Rattle.std.proofs.lemmas.Bool.{ne_eqb}
use Rattle.std.proofs.lemmas.List.Folds.{list_any-append}
use Rattle.std.specs.List.{list_any}
use Rattle.list_laws.specs.Ordered.{put_in_order}
use Rattle.tree_model.specs.Effects.{add_link, link_to}
use Rattle.tree_model.specs.Tree.{Tree, is_in, link_above}
use Rattle.tree_model.specs.declared.tree.Link.{Link}
use Rattle.tree_model.specs.declared.tree.Node.{Node}
use Rattle.session_def.specs.Named.{has_entry_of, leads_among}
use Rattle.in_place_done.specs.Steps.{with_node}

-- a test that an item does not meet is met by as many others
any-put : {A : Type 0} (p : A → Bool) (above : A → A → Bool) (x : A) (ys : List A) → p x ≡ false
    → list_any p (put_in_order above x ys) ≡ list_any p ys
any-put p above x [] out = ap (λ b. b || false) out
any-put {A = A} p above x (y ∷ ys) out = by (any-put p above x ys out) (above x y)
  where
    by : list_any p (put_in_order above x ys) ≡ list_any p ys → (b : Bool)
        → list_any p (cond b (y ∷ put_in_order above x ys) (x ∷ y ∷ ys)) ≡ list_any p (y ∷ ys)
    by rest true = ap (λ b. p y || b) rest
    by rest false = ap (λ b. b || list_any p (y ∷ ys)) out

pub entries-same : (tree : Tree) (dir made : ℕ) (units : List ℕ) (node : Node) → dir ≢ made → (d : ℕ)
    → has_entry_of (add_link (link_to made dir units) (with_node made node tree)) (dir ∷ []) d ≡ has_entry_of tree (dir ∷ []) d
entries-same tree dir made units node other d =
    let p : Link → Bool = λ link. is_in d link && leads_among (dir ∷ []) link in
    let link = link_to made dir units in
    let away : (made == dir) ≡ false = ne_eqb made dir (λ is. other (sym is)) in
    let out : p link ≡ false = ap (λ b. is_in d link && (b || false)) away ∙ none (is_in d link) in
    list_any-append p (put_in_order (link_above tree.fold) link tree.links) tree.hidden
    ∙ ap (λ b. b || list_any p tree.hidden) (any-put p (link_above tree.fold) link tree.links out)
    ∙ sym (list_any-append p tree.links tree.hidden)
  where
    none : (b : Bool) → (b && false) ≡ false
    none true = refl
    none false = refl
