-- TREES: of the directory's names none comes or goes in the tree between, in which the new link leads to the new file; and in the tree
-- behind the directory has an entry of that file, which is a directory where one was made.
use Rattle.std.proofs.Common.{◌≡◌, ◌≢◌, ◌⊎◌, ◌==◌, ◌&&◌, ◌||◌, ◌++◌, ℕ, Bool, true, false, cond, List, [], ◌∷◌, filter, length, Option}
use Rattle.std.proofs.Common.{Some, None, inl, inr, refl, sym, ap, subst, ◌∙◌}
use Rattle.std.proofs.lemmas.Bool.{and_from, and_parts, eq-eqb, false_from_ne_true, ne_eqb, or_left, or_right}
use Rattle.std.proofs.lemmas.List.Elements.{Contains-append_cases, Contains-append_left, Contains-append_right, filter-append}
use Rattle.std.specs.Cmp.{nat_cmp_total}
use Rattle.std.specs.FinMap as finmap
use Rattle.std.specs.List.{Contains, list_any}
use Rattle.std.specs.Option.{option_map_or}
use Rattle.list_laws.specs.Ordered.{put_in_order}
use Rattle.list_laws.proofs.FindLaws.{any-found, any-more, passing, some-counted}
use Rattle.list_laws.proofs.MemberLaws.{Contains-head, Contains-later}
use Rattle.list_laws.proofs.OrderLaws.{key_same}
use Rattle.list_laws.proofs.OrderedLaws.{from-put}
use Rattle.tree_model.specs.Effects.{add_link, changed_node, link_to, make, new_node, security_of, touched}
use Rattle.tree_model.specs.Subjects.{NameIn}
use Rattle.tree_model.specs.Tree.{Tree, is_in, leads_to, link_above, node_of}
use Rattle.tree_model.specs.declared.tree.Link.{Link}
use Rattle.tree_model.specs.declared.tree.Node.{Node}
use Rattle.session_def.specs.Named.{every_link, has_entry_of, leads_among}
use Rattle.session_def.specs.Nodes.{is_directory_node}
use Rattle.made_edits.specs.Steps.{with_node}
use Rattle.made_edits.proofs.StageLaws.{get-other}
use Rattle.in_place_owed.specs.SetsInPlace.{links_of}

never : {b : Bool} → b ≡ true → b ≡ false → ⊥
never x y = cc

-- AN ITEM THAT IS PUT among others is there, and a test that it does not meet passes the others.
put-there : {A : Type 0} (above : A → A → Bool) (x : A) (ys : List A) → Contains (put_in_order above x ys) x
put-there above x [] = Contains-head x []
put-there {A = A} above x (y ∷ ys) = by (put-there above x ys) (above x y)
  where
    by : Contains (put_in_order above x ys) x → (b : Bool) → Contains (cond b (y ∷ put_in_order above x ys) (x ∷ y ∷ ys)) x
    by rest true = Contains-later y (put_in_order above x ys) x rest
    by rest false = Contains-head x (y ∷ ys)

passed-put : {A : Type 0} (p : A → Bool) (above : A → A → Bool) (x : A) (ys : List A) → p x ≡ false
    → filter p (put_in_order above x ys) ≡ filter p ys
passed-put p above x [] out = ap (λ b. cond b (x ∷ []) []) out
passed-put {A = A} p above x (y ∷ ys) out = by (passed-put p above x ys out) (above x y)
  where
    by : filter p (put_in_order above x ys) ≡ filter p ys → (b : Bool)
        → filter p (cond b (y ∷ put_in_order above x ys) (x ∷ y ∷ ys)) ≡ filter p (y ∷ ys)
    by rest true = ap (λ (zs : List A). cond (p y) (y ∷ zs) zs) rest
    by rest false = ap (λ b. cond b (x ∷ filter p (y ∷ ys)) (filter p (y ∷ ys))) out

-- a directory without an entry of two files has none of the second
pub entry-fewer : (tree : Tree) (one two f : ℕ) → has_entry_of tree (one ∷ two ∷ []) f ≡ false → has_entry_of tree (two ∷ []) f ≡ false
entry-fewer tree one two f none = false_from_ne_true (has_entry_of tree (two ∷ []) f) (λ is.
    never (any-more (λ (l : Link). is_in f l && leads_among (two ∷ []) l) (λ (l : Link). is_in f l && leads_among (one ∷ two ∷ []) l)
    (every_link tree) (λ l e.
    let both = and_parts (is_in f l) (leads_among (two ∷ []) l) e in
    and_from (is_in f l) (leads_among (one ∷ two ∷ []) l) both.0 (or_right (leads_to one l) (leads_among (two ∷ []) l) both.1)) is) none)

module _ (tree : Tree) (dir made : ℕ) (units : List ℕ) (other : dir ≢ made) where
  abbrev link : Link
  link = link_to made dir units

  elsewhere : (made == dir) ≡ false
  elsewhere = ne_eqb made dir (λ is. other (sym is))

  -- THE TREE BETWEEN, as the file came into it
  module _ (between : Tree) (node : Node) (reads : between ≡ add_link link (with_node made node tree)) where
    links-are : every_link between ≡ put_in_order (link_above tree.fold) link tree.links ++ tree.hidden
    links-are = ap every_link reads

    link-cases : (x : Link) → Contains (every_link between) x → (link ≡ x) ⊎ Contains (every_link tree) x
    link-cases x c =
        elim (Contains-append_cases (put_in_order (link_above tree.fold) link tree.links) tree.hidden x
        (subst (λ xs. Contains xs x) links-are c)) [
          | inl shown ↦ elim (from-put (link_above tree.fold) link tree.links x shown) [
            | inl same ↦ inl same
            | inr had ↦ inr (Contains-append_left tree.links tree.hidden x had)
          ]
          | inr hides ↦ inr (Contains-append_right tree.links tree.hidden x hides)
        ]

    -- a directory without an entry of the two had none of the directory
    pub entry-less : (f : ℕ) → has_entry_of tree (made ∷ dir ∷ []) f ≡ false → has_entry_of between (dir ∷ []) f ≡ false
    entry-less f none = false_from_ne_true (has_entry_of between (dir ∷ []) f) (λ is.
        let p = λ (l : Link). is_in f l && leads_among (dir ∷ []) l in
        let met = passing p (every_link between) (some-counted p (every_link between) is) in
        let both = and_parts (is_in f met.0) (leads_among (dir ∷ []) met.0) met.2 in
        elim (link-cases met.0 met.1) [
          | inl same ↦
              absurd (never (subst (λ (l : Link). leads_among (dir ∷ []) l ≡ true) (sym same) both.1)
              (ap (λ b. b || false) elsewhere))
          | inr had ↦
              absurd (never (any-found (λ (l : Link). is_in f l && leads_among (made ∷ dir ∷ []) l) (every_link tree) met.0 had
              (and_from (is_in f met.0) (leads_among (made ∷ dir ∷ []) met.0) both.0
              (or_right (leads_to made met.0) (leads_among (dir ∷ []) met.0) both.1))) none)
        ])

    -- the directory has the names that it had
    pub links-same : links_of between dir ≡ links_of tree dir
    links-same =
        ap (λ xs. length (filter (leads_to dir) xs)) links-are
        ∙ ap length (filter-append (leads_to dir) (put_in_order (link_above tree.fold) link tree.links) tree.hidden
        ∙ ap (λ xs. xs ++ filter (leads_to dir) tree.hidden) (passed-put (leads_to dir) (link_above tree.fold) link tree.links elsewhere)
        ∙ sym (filter-append (leads_to dir) tree.links tree.hidden))

  -- THE TREE BEHIND
  module _ (directory : Bool) (next : Tree) (now : ℕ) (moved : next ≡ make directory now made (NameIn dir units) tree) where
    abbrev fresh : Node
    fresh = new_node directory now (security_of tree dir)

    abbrev linked : Tree
    linked = add_link link (with_node made fresh tree)

    touch-links : (o : Option Node) → every_link (changed_node linked dir (touched now) o) ≡ every_link linked
    touch-links None = refl
    touch-links (Some node) = refl

    touch-node : (o : Option Node) → node_of (changed_node linked dir (touched now) o) made ≡ node_of linked made
    touch-node None = refl
    touch-node (Some node) = get-other linked dir made (touched now node) (λ is. other (sym is))

    pub entry-there : has_entry_of next (made ∷ dir ∷ []) dir ≡ true
    entry-there =
        ap (λ (t : Tree). has_entry_of t (made ∷ dir ∷ []) dir) moved
        ∙ ap (λ xs. list_any (λ (l : Link). is_in dir l && leads_among (made ∷ dir ∷ []) l) xs) (touch-links (node_of linked dir))
        ∙ any-found (λ (l : Link). is_in dir l && leads_among (made ∷ dir ∷ []) l) (every_link linked) link
        (Contains-append_left (put_in_order (link_above tree.fold) link tree.links) tree.hidden link
        (put-there (link_above tree.fold) link tree.links))
        (and_from (is_in dir link) (leads_among (made ∷ dir ∷ []) link) (eq-eqb dir dir refl)
        (or_left (made == made) ((made == dir) || false) (eq-eqb made made refl)))

    node-now : node_of next made ≡ Some fresh
    node-now =
        ap (λ (t : Tree). node_of t made) moved ∙ touch-node (node_of linked dir)
        ∙ finmap.get-insert nat_cmp_total tree.nodes made fresh made
        ∙ ap (λ b. cond b (Some fresh) (finmap.get tree.nodes made)) (key_same made)

    pub directory-told : is_directory_node next made ≡ directory
    directory-told = ap (λ (o : Option Node). option_map_or (λ (node : Node). node.dir) o false) node-now
