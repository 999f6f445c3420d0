-- A LINK THAT WENT led to no other file: directories have the entries of another file that they had.
use Rattle.std.proofs.Common.{◌≡◌, ◌≢◌, ◌&&◌, ◌||◌, not, ℕ, Bool, true, false, List, [], ◌∷◌, cond, filter, refl, sym, ap, ◌∙◌}
use Rattle.std.proofs.lemmas.Bool.{and_parts, eqb-true, false_from_ne_true}
use Rattle.std.proofs.lemmas.List.Folds.{list_any-append}
use Rattle.std.specs.List.{list_any}
use Rattle.tree_model.specs.Drops.{is_link}
use Rattle.tree_model.specs.Tree.{Tree, is_in, leads_to}
use Rattle.tree_model.specs.declared.tree.Link.{Link}
use Rattle.session_def.specs.Named.{has_entry_of, leads_among}
use Rattle.command_edits.proofs.SameLink.{is_link-exact}
use Rattle.in_place_done.specs.Steps.{without_link, without_node}

-- a test that is met by none that goes is met by as many others
any-kept : {A : Type 0} (p q : A → Bool) (xs : List A) → ((x : A) → p x ≡ true → q x ≡ true) → list_any p (filter q xs) ≡ list_any p xs
any-kept p q [] kept = refl
any-kept {A = A} p q (x ∷ xs) kept = by (any-kept p q xs kept) (p x) (q x) refl refl
  where
    by : list_any p (filter q xs) ≡ list_any p xs → (a b : Bool) → p x ≡ a → q x ≡ b → list_any p (filter q (x ∷ xs)) ≡ list_any p (x ∷ xs)
    by rest a true e f = rw f (ap (λ r. p x || r) rest)
    by rest true false e f = let g = sym (kept x e) ∙ f in cc
    by rest false false e f = rw f (rest ∙ sym (ap (λ r. r || list_any p xs) e))

pub entries-same : (tree : Tree) (link : Link) (dir : ℕ) → dir ≢ link.child → (d : ℕ)
    → has_entry_of (without_node link.child (without_link link tree)) (dir ∷ []) d ≡ has_entry_of tree (dir ∷ []) d
entries-same tree link dir other d =
    let p : Link → Bool = λ one. is_in d one && leads_among (dir ∷ []) one in
    let q : Link → Bool = λ one. not (is_link link one) in
    list_any-append p (filter q tree.links) tree.hidden
    ∙ ap (λ b. b || list_any p tree.hidden)
    (any-kept p q tree.links (λ one e. ap not (false_from_ne_true (is_link link one) (λ is.
    other (sym (eqb-true one.child dir (strip (leads_to dir one) (and_parts (is_in d one) (leads_among (dir ∷ []) one) e).1))
    ∙ sym (ap (λ (l : Link). l.child) (is_link-exact link one is)))))))
    ∙ sym (list_any-append p tree.links tree.hidden)
  where
    strip : (b : Bool) → (b || false) ≡ true → b ≡ true
    strip true e = refl
    strip false e = cc
