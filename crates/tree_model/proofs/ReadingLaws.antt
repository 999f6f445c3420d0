-- What the tree of a volume has at each number, and in each directory.
use Rattle.std.proofs.Common.{◌≡◌, ◌⊎◌, ◌≢◌, ◌<◌, ◌≤◌, ◌+◌, ◌++◌, Bool, ℕ, zero, suc, true, cond, List, ◌∷◌, filter, Option}
use Rattle.std.proofs.Common.{Some, None, refl, sym, ap, subst, inl, inr, ◌∙◌, arith}
use Rattle.std.proofs.lemmas.Bool.{cases_eq, cases_lt, le-ltb}
use Rattle.std.specs.List.{filter_map, range_with_len, cons_option}
use Rattle.std.specs.Prelude.{option_map}
use Rattle.std.specs.FinMap as finmap
use Rattle.std.specs.FinMap.Entries.{find}
use Rattle.std.specs.Cmp.{nat_cmp_total}
use Rattle.std.specs.Ordering.{nat_cmp, eq_by_cmp}
use Rattle.volume_def.specs.CaseClause.{volume_fold}
use Rattle.volume_def.specs.View.{VolumeView}
use Rattle.list_laws.specs.Ordered.{in_order, put_in_order}
use Rattle.list_laws.proofs.OrderedLaws.{both_ordered, moved}
use Rattle.tree_model.specs.declared.tree.Node.{Node}
use Rattle.tree_model.specs.declared.tree.Link.{Link}
use Rattle.tree_model.specs.Tree.{is_in, link_above, node_of, sought_link}
use Rattle.tree_model.specs.Paths.{links_in_order, lookup}
use Rattle.tree_model.specs.Reading.{all_links, directory_links, is_hidden_link, node_at, tree_nodes, read}
use Rattle.tree_model.proofs.LinkOrder.{link_order}
use Rattle.list_laws.proofs.OrderLaws.{key_other, key_same}

-- the first of the entries
abbrev entry_of : ℕ → Option Node → Option (ℕ × Node)
entry_of f o = option_map (λ node. (f, node)) o

find_other : (q f : ℕ) (o : Option Node) (es : List (ℕ × Node)) → q ≢ f → find nat_cmp q (cons_option (entry_of f o) es) ≡ find nat_cmp q es
find_other q f None es ne = refl
find_other q f (Some node) es ne = ap (λ b. cond b (Some node) (find nat_cmp q es)) (key_other q f ne)

find_here : (q : ℕ) (o : Option Node) (es : List (ℕ × Node)) → find nat_cmp q es ≡ None → find nat_cmp q (cons_option (entry_of q o) es) ≡ o
find_here q None es e = e
find_here q (Some node) es e = ap (λ b. cond b (Some node) (find nat_cmp q es)) (key_same q)

-- what is found among the entries of a range
find_out : (g : ℕ → Option Node) (from n q : ℕ) → (q < from) ⊎ (from + n ≤ q)
    → find nat_cmp q (filter_map (λ f. entry_of f (g f)) (range_with_len from n)) ≡ None
find_out g from zero q h = refl
find_out g from (suc n) q h =
    find_other q from (g from) _ (λ e. elim h [ inl lt ↦ absurd (omega arith) | inr ge ↦ absurd (omega arith) ])
    ∙ find_out g (from + 1) n q (elim h [ inl lt ↦ inl (omega arith) | inr ge ↦ inr (omega arith) ])

find_in : (g : ℕ → Option Node) (from n q : ℕ) → from ≤ q → q < from + n
    → find nat_cmp q (filter_map (λ f. entry_of f (g f)) (range_with_len from n)) ≡ g q
find_in g from zero q a b = absurd (omega arith)
find_in g from (suc n) q a b = elim (cases_eq q from) [
  | inl e ↦ subst (λ x. find nat_cmp x (cons_option (entry_of from (g from)) (filter_map (λ f. entry_of f (g f)) (range_with_len
      (from + 1) n))) ≡ g x) (sym e) (find_here from (g from) _ (find_out g (from + 1) n from (inl (omega arith))))
  | inr ne ↦ find_other q from (g from) _ ne ∙ find_in g (from + 1) n q (omega arith) (omega arith)
]

past : (v : VolumeView) (q : ℕ) → v.layout.count ≤ q → node_at v q ≡ None
unfolding node_at
past v q ge = rw (le-ltb q v.layout.count ge) refl

-- the tree has at each number the node of that record
pub get-nodes : (v : VolumeView) (q : ℕ) → finmap.get (tree_nodes v) q ≡ node_at v q
unfolding tree_nodes
get-nodes v q = finmap.get-from_entries nat_cmp_total _ q ∙ elim (cases_lt q v.layout.count) [
  | inl lt ↦ find_in (node_at v) 0 v.layout.count q (omega arith) (omega arith)
  | inr ge ↦ find_out (node_at v) 0 v.layout.count q (inr (omega arith)) ∙ sym (past v q ge)
]

pub node_of-read : (v : VolumeView) (f : ℕ) → node_of (read v) f ≡ node_at v f
unfolding read
node_of-read v f = get-nodes v f

-- a directory of the tree has the links that its index has
pub links_in_order-read : (v : VolumeView) (dir : ℕ) → links_in_order (read v) dir ≡ directory_links v dir
unfolding read links_in_order directory_links
links_in_order-read v dir = both_ordered (link_order (volume_fold v)) (is_in dir) (is_hidden_link v) (all_links v)

pub lookup-read : (v : VolumeView) (dir : ℕ) (name : List ℕ)
    → lookup (read v) dir name ≡ sought_link (volume_fold v) (directory_links v dir) name
unfolding read
lookup-read v dir name = ap (λ links. sought_link (volume_fold v) links name) (links_in_order-read v dir)

-- one node differs
pub nodes-insert : (old new : VolumeView) (f : ℕ) (node : Node) → node_at new f ≡ Some node → ((q : ℕ) → q ≢ f
    → node_at new q ≡ node_at old q)
    → tree_nodes new ≡ finmap.insert (tree_nodes old) f node
nodes-insert old new f node here same =
    finmap.same_map nat_cmp_total finmap.nat_cmp-IsAntisymmetric _ _ (λ q. one q
    ∙ sym (finmap.get-insert nat_cmp_total (tree_nodes old) f node q))
  where
    one : (q : ℕ) → finmap.get (tree_nodes new) q ≡ cond (eq_by_cmp nat_cmp q f) (Some node) (finmap.get (tree_nodes old) q)
    one q = elim (cases_eq q f) [
      | inl e ↦
          subst (λ x. finmap.get (tree_nodes new) x ≡ cond (eq_by_cmp nat_cmp x f) (Some node) (finmap.get (tree_nodes old) x)) (sym e)
          (get-nodes new f ∙ here ∙ sym (ap (λ b. cond b (Some node) (finmap.get (tree_nodes old) f)) (key_same f)))
      | inr ne ↦ get-nodes new q ∙ same q ne ∙ sym (get-nodes old q)
          ∙ sym (ap (λ b. cond b (Some node) (finmap.get (tree_nodes old) q)) (key_other q f ne))
    ]

-- one link more, wherever its name stands among the parts
pub links-more : (fold : ℕ → ℕ) (test : Link → Bool) (before after : List Link) (link : Link) → test link ≡ true
    → in_order (link_above fold) (filter test (before ++ link ∷ after))
    ≡ put_in_order (link_above fold) link (in_order (link_above fold) (filter test (before ++ after)))
links-more fold test before after link passes = moved (link_order fold) test before link after ∙ rw passes refl

-- one node is gone
pub nodes-remove : (old new : VolumeView) (f : ℕ) → node_at new f ≡ None → ((q : ℕ) → q ≢ f → node_at new q ≡ node_at old q)
    → tree_nodes new ≡ finmap.remove (tree_nodes old) f
nodes-remove old new f here same =
    finmap.same_map nat_cmp_total finmap.nat_cmp-IsAntisymmetric _ _ (λ q. one q
    ∙ sym (finmap.get-remove nat_cmp_total (tree_nodes old) f q))
  where
    one : (q : ℕ) → finmap.get (tree_nodes new) q ≡ cond (eq_by_cmp nat_cmp q f) None (finmap.get (tree_nodes old) q)
    one q = elim (cases_eq q f) [
      | inl e ↦
          subst (λ x. finmap.get (tree_nodes new) x ≡ cond (eq_by_cmp nat_cmp x f) None (finmap.get (tree_nodes old) x)) (sym e)
          (get-nodes new f ∙ here ∙ sym (ap (λ b. cond b None (finmap.get (tree_nodes old) f)) (key_same f)))
      | inr ne ↦ get-nodes new q ∙ same q ne ∙ sym (get-nodes old q)
          ∙ sym (ap (λ b. cond b None (finmap.get (tree_nodes old) q)) (key_other q f ne))
    ]
