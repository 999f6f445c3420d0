-- TREES: of the directory's names none comes or goes in the tree between, from which the link of the file went; in the tree behind the
-- file is no node; and the links that the command drops lead to that file.
use Rattle.std.proofs.Common.{◌≡◌, ◌≢◌, ◌==◌, ◌&&◌, ◌||◌, ◌++◌, not, ℕ, Bool, true, false, cond, [], ◌∷◌, filter, length, Option}
use Rattle.std.proofs.Common.{Some, None, inl, inr, refl, sym, ap, subst, ◌∙◌}
use Rattle.std.proofs.lemmas.Bool.{and_from, and_parts, eqb-true, false_from_ne_true, or_cases, or_right}
use Rattle.std.proofs.lemmas.List.Elements.{Contains-append_cases, Contains-append_left, Contains-append_right, filter-append}
use Rattle.std.specs.Cmp.{nat_cmp_total}
use Rattle.std.specs.FinMap as finmap
use Rattle.std.specs.List.{Contains, list_any}
use Rattle.list_laws.proofs.FilterLaws.{filter-passed}
use Rattle.list_laws.proofs.FindLaws.{any-found, any-more, passing, some-counted}
use Rattle.list_laws.proofs.MemberLaws.{Contains-from_filter}
use Rattle.list_laws.proofs.OrderLaws.{key_same}
use Rattle.tree_model.specs.Bill.{links_with}
use Rattle.tree_model.specs.Drops.{goes_with, has_other_long, is_beside, is_last_name, is_link, is_long}
use Rattle.tree_model.specs.Effects.{changed_node, drop_link, drop_name, leave_file, stamp, touched}
use Rattle.tree_model.specs.Tree.{Tree, is_dos, is_in, leads_to, node_of}
use Rattle.tree_model.specs.declared.tree.Link.{Link}
use Rattle.tree_model.specs.declared.tree.Node.{Node}
use Rattle.session_def.specs.Named.{every_link, has_entry_of, leads_among}
use Rattle.made_edits.specs.Steps.{without_link, without_node}
use Rattle.made_edits.proofs.SameLink.{is_link-exact}
use Rattle.in_place_owed.specs.SetsInPlace.{links_of}
use Rattle.made_edits.proofs.StageLaws.{get-other}

never : {b : Bool} → b ≡ true → b ≡ false → ⊥
never x y = cc

-- more entries of more files
pub entry-more : (tree : Tree) (one two f : ℕ) → has_entry_of tree (one ∷ []) f ≡ true → has_entry_of tree (one ∷ two ∷ []) f ≡ true
entry-more tree one two f is =
    any-more (λ (l : Link). is_in f l && leads_among (one ∷ []) l) (λ (l : Link). is_in f l && leads_among (one ∷ two ∷ []) l)
    (every_link tree) (λ l e.
    let both = and_parts (is_in f l) (leads_among (one ∷ []) l) e in
    and_from (is_in f l) (leads_among (one ∷ two ∷ []) l) both.0 (first (leads_to one l) (leads_to two l) both.1)) is
  where
    first : (a b : Bool) → (a || false) ≡ true → (a || (b || false)) ≡ true
    first true b e = refl
    first false b e = cc

-- a directory without an entry of two files has none of the second
pub entry-fewer : (tree : Tree) (one two f : ℕ) → has_entry_of tree (one ∷ two ∷ []) f ≡ false → has_entry_of tree (two ∷ []) f ≡ false
entry-fewer tree one two f none = false_from_ne_true (has_entry_of tree (two ∷ []) f) (λ is.
    never (any-more (λ (l : Link). is_in f l && leads_among (two ∷ []) l) (λ (l : Link). is_in f l && leads_among (one ∷ two ∷ []) l)
    (every_link tree) (λ l e.
    let both = and_parts (is_in f l) (leads_among (two ∷ []) l) e in
    and_from (is_in f l) (leads_among (one ∷ two ∷ []) l) both.0 (or_right (leads_to one l) (leads_among (two ∷ []) l) both.1)) is) none)

-- THE LINKS THAT GO lead to the same file.
pub goes-child : (tree : Tree) (link other : Link) → goes_with tree link other ≡ true → other.child ≡ link.child
goes-child tree link other is = elim (or_cases (is_link link other) _ is) [
  | inl same ↦ sym (ap (λ (l : Link). l.child) (is_link-exact link other same))
  | inr more ↦
      let a = and_parts (is_long link && is_dos other && is_beside link other) (not (has_other_long tree link)) more in
      let b = and_parts (is_long link && is_dos other) (is_beside link other) a.0 in
      eqb-true other.child link.child (and_parts (other.parent == link.parent) (other.child == link.child) b.1).1
]

pub dropped-child : (tree : Tree) (link other : Link) → Contains (links_with tree link) other → other.child ≡ link.child
dropped-child tree link other c = goes-child tree link other (Contains-from_filter (goes_with tree link) tree.links other c).1

-- a link to another file is none of these
pub not-dropped : (tree : Tree) (link other : Link) → other.child ≢ link.child
    → list_any (is_link other) (links_with tree link) ≡ false
not-dropped tree link other apart = false_from_ne_true (list_any (is_link other) (links_with tree link)) (λ is.
    let met = passing (is_link other) (links_with tree link) (some-counted (is_link other) (links_with tree link) is) in
    apart (ap (λ (l : Link). l.child) (is_link-exact other met.0 met.2) ∙ dropped-child tree link met.0 met.1))

module _ (tree : Tree) (link : Link) (dir : ℕ) (other : dir ≢ link.child) where
  away : (x : Link) → leads_to dir x ≡ true → is_link link x ≡ false
  away x leads = false_from_ne_true (is_link link x) (λ is.
      other (sym (eqb-true x.child dir leads) ∙ sym (ap (λ (l : Link). l.child) (is_link-exact link x is))))

  -- THE TREE BETWEEN, from which the file went
  module _ (between : Tree) (reads : between ≡ without_node link.child (without_link link tree)) where
    links-are : every_link between ≡ filter (λ l. not (is_link link l)) tree.links ++ tree.hidden
    links-are = ap every_link reads

    was-there : (x : Link) → Contains (every_link between) x → Contains (every_link tree) x
    was-there x c =
        elim (Contains-append_cases (filter (λ l. not (is_link link l)) tree.links) tree.hidden x
        (subst (λ xs. Contains xs x) links-are c)) [
          | inl shown ↦
              Contains-append_left tree.links tree.hidden x (Contains-from_filter (λ l. not (is_link link l)) tree.links x shown).0
          | inr hides ↦ Contains-append_right tree.links tree.hidden x hides
        ]

    -- a directory without an entry of the two has none of the directory then
    pub entry-less : (f : ℕ) → has_entry_of tree (link.child ∷ dir ∷ []) f ≡ false → has_entry_of between (dir ∷ []) f ≡ false
    entry-less f none = false_from_ne_true (has_entry_of between (dir ∷ []) f) (λ is.
        let p = λ (l : Link). is_in f l && leads_among (dir ∷ []) l in
        let met = passing p (every_link between) (some-counted p (every_link between) is) in
        let both = and_parts (is_in f met.0) (leads_among (dir ∷ []) met.0) met.2 in
        never (any-found (λ (l : Link). is_in f l && leads_among (link.child ∷ dir ∷ []) l) (every_link tree) met.0
        (was-there met.0 met.1) (and_from (is_in f met.0) (leads_among (link.child ∷ dir ∷ []) met.0) both.0
        (or_right (leads_to link.child met.0) (leads_among (dir ∷ []) met.0) both.1))) none)

    -- the directory has the names that it had
    pub links-same : links_of between dir ≡ links_of tree dir
    links-same =
        let q = λ (l : Link). not (is_link link l) in
        ap (λ xs. length (filter (leads_to dir) xs)) links-are
        ∙ ap length (filter-append (leads_to dir) (filter q tree.links) tree.hidden
        ∙ ap (λ xs. xs ++ filter (leads_to dir) tree.hidden)
        (filter-passed (leads_to dir) q tree.links (λ x e. ap not (away x e)))
        ∙ sym (filter-append (leads_to dir) tree.links tree.hidden))

  -- THE TREE BEHIND
  module _ (next : Tree) (now : ℕ) (same : link.parent ≡ dir) (last : is_last_name tree link ≡ true)
      (moved : next ≡ drop_name now (Some link) tree) where
    abbrev left : Tree
    left = without_node link.child (drop_link link tree)

    leaves : leave_file now link tree ≡ left
    leaves = ap (λ b. cond b left (stamp now link.child (drop_link link tree))) last

    touch-node : (o : Option Node) → node_of (changed_node left link.parent (touched now) o) link.child ≡ node_of left link.child
    touch-node None = refl
    touch-node (Some node) = get-other left link.parent link.child (touched now node) (λ is. other (sym same ∙ sym is))

    pub node-gone : node_of next link.child ≡ None
    node-gone =
        ap (λ (t : Tree). node_of t link.child) moved
        ∙ ap (λ (t : Tree). node_of (changed_node t link.parent (touched now) (node_of t link.parent)) link.child) leaves
        ∙ touch-node (node_of left link.parent)
        ∙ finmap.get-remove nat_cmp_total tree.nodes link.child link.child
        ∙ ap (λ b. cond b None (finmap.get tree.nodes link.child)) (key_same link.child)
