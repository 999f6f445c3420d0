-- The depth of an index is that of the tree which its walk goes through, and its nodes have the entries of the walk.
use Rattle.std.proofs.Common.{◌≡◌, ◌≤◌, ◌++◌, ◌||◌, Bool, true, false, cond, eqb, ℕ, zero, suc, map, List, [], ◌∷◌, Option, Some}
use Rattle.std.proofs.Common.{append-nil, refl, sym, ap, ◌∙◌, arith}
use Rattle.std.proofs.lemmas.List.Folds.{list_any-append}
use Rattle.std.specs.List.{filter_map, find, flat_map, list_any}
use Rattle.std.specs.Option.{option_and_then, option_map_or, option_to_list}
use Rattle.ntfs_def.specs.IndexTree.{AreStored, Branch, EachBelow, IsStored, Nodes, Spread, Tree, branch_items, child_of, entry_of}
use Rattle.ntfs_def.specs.IndexTree.{items_of, most_depth, node_of, spread_items}
use Rattle.ntfs_def.specs.Node.{Entry, Item, Node, short_node}
use Rattle.volume_def.specs.Files.{Clusters, Content, Part, Value, content_value}
use Rattle.volume_def.specs.IndexesClause.{HasIndex, KeyRule, index_parts}
use Rattle.volume_def.specs.Values.{first_part, first_vcn_of, is_first}
use Rattle.volume_def.specs.View.{VolumeView}
use Rattle.tree_model.specs.IndexRoom.{Index, all_nodes, has_entry, holds_entry, index_depth, levels_below, nodes_under, other_nodes}
use Rattle.list_laws.proofs.BoolLaws.{or-false}
use Rattle.list_laws.proofs.OptionLaws.{none_other}

last_below : (nodes : Nodes) (d : ℕ) (bs : List (Branch (Tree d))) (last : Tree d) → EachBelow (IsStored nodes d) bs last
    → IsStored nodes d last
last_below nodes d [] last h = h
last_below nodes d (b ∷ bs) last h = last_below nodes d bs last h.1

-- the way by the last child goes to a leaf
levels-stored : (nodes : Nodes) (most d : ℕ) (tree : Tree d) → d ≤ most → IsStored nodes d tree
    → levels_below most nodes (child_of d tree) ≡ d
levels-stored nodes zero zero tree few h = refl
levels-stored nodes zero (suc d) tree few h = absurd (omega (arith, few))
levels-stored nodes (suc most) zero tree few h = refl
levels-stored nodes (suc most) (suc d) tree few h =
    ap (λ node. suc (levels_below most nodes (option_and_then (λ (n : Node). n.last) node))) h.0
    ∙ ap (λ k. suc k)
    (levels-stored nodes most d tree.spread.last (omega (arith, few))
    (last_below nodes d tree.spread.branches tree.spread.last h.1))

first-value : (content : Content) (value : List ℕ) → content_value content ≡ Some value → first_vcn_of content ≡ 0
first-value (Value v) value is = refl
first-value (Clusters extent runs) value is = absurd (none_other is)

-- the only part with a value is the first one
root-value : {X : Type 0} (f : List ℕ → Option X) (parts : List Part) (value : List ℕ)
    → map (λ part. content_value part.content) parts ≡ Some value ∷ []
    → option_and_then (λ part. option_and_then f (content_value part.content)) (first_part parts) ≡ f value
root-value f [] value is = cc
root-value f (part ∷ parts) value is =
    let here : content_value part.content ≡ Some value = cc in
    ap (λ n. option_and_then (λ (p : Part). option_and_then f (content_value p.content)) (cond (eqb n 0) (Some part) (find is_first parts)))
    (first-value part.content value here)
    ∙ ap (option_and_then f) here

pub depth-walk : (view : VolumeView) (index : Index) (rule : KeyRule) (items : List Item)
    → (has : HasIndex index.form rule view (index_parts view index.file index.name) items)
    → index_depth view index ≡ suc has.walks.depth
unfolding index_depth
depth-walk view index rule items has =
    let root = root-value (short_node index.form) (index_parts view index.file index.name).root has.root has.is_root ∙ has.says in
    let walk = has.walks in
    let below = last_below (other_nodes view index) walk.depth walk.s.branches walk.s.last walk.holds.stored in
    ap (λ node. option_map_or (λ (n : Node). suc (levels_below most_depth (other_nodes view index) n.last)) node 0) root
    ∙ ap (λ (n : Node). suc (levels_below most_depth (other_nodes view index) n.last)) (sym walk.holds.node)
    ∙ ap (λ k. suc k) (levels-stored (other_nodes view index) most_depth walk.depth walk.s.last walk.small below)

-- ENTRIES.

-- the children of a node, by the branches of the tree
children : (d : ℕ) → List (Branch (Tree d)) → Tree d → List ℕ
children d bs last = filter_map (λ (entry : Entry). entry.child) (map (entry_of d) bs) ++ option_to_list (child_of d last)

children-leaf : (bs : List (Branch (Tree 0))) (last : Tree 0) → children 0 bs last ≡ []
unfolding children
children-leaf [] last = refl
children-leaf (b ∷ bs) last = children-leaf bs last

-- the entries of a node itself
own : (Item → Bool) → (d : ℕ) → List (Branch (Tree d)) → Bool
own test d bs = list_any (λ (entry : Entry). test entry.item) (map (entry_of d) bs)

own-leaf : (test : Item → Bool) (bs : List (Branch (Tree 0))) (last : Tree 0)
    → own test 0 bs ≡ list_any test (branch_items (items_of 0) bs last)
unfolding own
own-leaf test [] last = refl
own-leaf test (b ∷ bs) last = ap (λ found. test b.item || found) (own-leaf test bs last)

apart : (t a x b : Bool) → ((t || a) || (x || b)) ≡ (x || (t || (a || b)))
apart true a true b = refl
apart true a false b = refl
apart false true true b = refl
apart false false true b = refl
apart false a false b = refl

-- a node with children, where below each child the nodes found have the items of its walk
inner : (test : Item → Bool) (nodes : Nodes) (found : ℕ → List Node) (d : ℕ) (bs : List (Branch (Tree (suc d)))) (last : Tree (suc d))
    → ((t : Tree (suc d)) → IsStored nodes (suc d) t → list_any (holds_entry test) (found t.vcn) ≡ list_any test (items_of (suc d) t))
    → EachBelow (IsStored nodes (suc d)) bs last
    → (own test (suc d) bs || list_any (holds_entry test) (flat_map found (children (suc d) bs last)))
    ≡ list_any test (branch_items (items_of (suc d)) bs last)
unfolding own children
inner test nodes found d [] last below h = ap (list_any (holds_entry test)) (append-nil (found last.vcn)) ∙ below last h
inner test nodes found d (b ∷ bs) last below h =
    let rest = children (suc d) bs last in
    ap (λ any. (test b.item || own test (suc d) bs) || any)
    (list_any-append (holds_entry test) (found b.below.vcn) (flat_map found rest)
    ∙ ap (λ any. any || list_any (holds_entry test) (flat_map found rest)) (below b.below h.0))
    ∙ apart (test b.item) (own test (suc d) bs) (list_any test (items_of (suc d) b.below))
    (list_any (holds_entry test) (flat_map found rest))
    ∙ ap (λ any. list_any test (items_of (suc d) b.below) || (test b.item || any)) (inner test nodes found d bs last below h.1)
    ∙ sym (list_any-append test (items_of (suc d) b.below) (b.item ∷ branch_items (items_of (suc d)) bs last))

under-items : (test : Item → Bool) (nodes : Nodes) (levels d : ℕ) (s : Spread (Tree d)) → d ≤ levels → AreStored nodes d s
    → list_any (holds_entry test) (nodes_under levels nodes (node_of d s)) ≡ list_any test (spread_items d s)
unfolding own children
under-items test nodes zero zero s few h = or-false (own test 0 s.branches) ∙ own-leaf test s.branches s.last
under-items test nodes zero (suc d) s few h = absurd (omega (arith, few))
under-items test nodes (suc levels) zero s few h =
    let found : ℕ → List Node = λ vcn. option_map_or (nodes_under levels nodes) (nodes vcn) [] in
    ap (λ below. own test 0 s.branches || list_any (holds_entry test) (flat_map found below)) (children-leaf s.branches s.last)
    ∙ or-false (own test 0 s.branches) ∙ own-leaf test s.branches s.last
under-items test nodes (suc levels) (suc d) s few h =
    inner test nodes (λ vcn. option_map_or (nodes_under levels nodes) (nodes vcn) []) d s.branches s.last
    (λ t stored. ap (λ node. list_any (holds_entry test) (option_map_or (nodes_under levels nodes) node [])) stored.0
    ∙ under-items test nodes levels d t.spread (omega (arith, few)) stored.1)
    h

pub entry-walk : (view : VolumeView) (index : Index) (rule : KeyRule) (items : List Item) (test : Item → Bool)
    → HasIndex index.form rule view (index_parts view index.file index.name) items
    → has_entry view index test ≡ list_any test items
unfolding all_nodes
entry-walk view index rule items test has =
    let root = root-value (short_node index.form) (index_parts view index.file index.name).root has.root has.is_root ∙ has.says in
    let walk = has.walks in
    ap (λ node. list_any (holds_entry test) (option_map_or (nodes_under most_depth (other_nodes view index)) node [])) root
    ∙ ap (λ node. list_any (holds_entry test) (nodes_under most_depth (other_nodes view index) node)) (sym walk.holds.node)
    ∙ under-items test (other_nodes view index) most_depth walk.depth walk.s walk.small walk.holds.stored
    ∙ ap (list_any test) (sym walk.is)
