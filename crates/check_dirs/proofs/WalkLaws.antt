-- The walk of an index, from what was gathered.
use Rattle.std.proofs.Common.{◌≡◌, ℕ, List, [], Some, None, Bool, true, false, eqb, sym, ap, subst, ◌∙◌, arith}
use Rattle.std.specs.List.{list_any}
use Rattle.ntfs_def.specs.Node.{Item, Node, child_from}
use Rattle.ntfs_def.specs.IndexTree.{Nodes, Spread, Tree, HoldsIndex, IsStored, Walks, spread_items}
use Rattle.index_tree.specs.Walk.{items_in}
use Rattle.check_dirs.specs.Gathered.{GathersNode, IsDepth, IsTheWalk, LacksNode, TellsNode, TellsWalk}
use Rattle.index_tree.proofs.IndexTreeLaws.{EachBelow-at, below_at}
use Rattle.list_laws.proofs.BoolLaws.{at_most_one}
use Rattle.check_dirs.proofs.TreeLaws.{child_at_place, one_spread}

module _ (nodes : Nodes) (node : Node) where
  pub too_deep : IsDepth nodes (child_from node.entries node.last 0) 15 None → TellsWalk nodes node None
  too_deep none items walks =
      none walks.depth (below_at walks.s.branches walks.s.last 0) walks.small
      (child_at_place walks.depth node walks.s 0 walks.holds.node)
      (EachBelow-at (IsStored nodes walks.depth) walks.s.branches walks.s.last 0 walks.holds.stored)

  module _ (d : ℕ) (deep : IsDepth nodes (child_from node.entries node.last 0) 15 (Some d)) where
    one_depth : (items : List Item) (walks : Walks nodes node items) → walks.depth ≡ d
    one_depth items walks =
        deep.1 walks.depth (below_at walks.s.branches walks.s.last 0) (child_at_place walks.depth node walks.s 0 walks.holds.node)
        (EachBelow-at (IsStored nodes walks.depth) walks.s.branches walks.s.last 0 walks.holds.stored)

    pub lacks_walk : LacksNode nodes d node [] → TellsWalk nodes node None
    lacks_walk none items walks =
        (subst (λ k. LacksNode nodes k node []) (sym (one_depth items walks)) none) walks.s walks.holds.node walks.holds.stored
        (λ place. let b = walks.holds.once place in omega arith)

    module _ (met : List ℕ) (entries : List (List ℕ)) (g : GathersNode nodes d node [] met [] entries) where
      same_items : (k : ℕ) → k ≡ d → (s : Spread (Tree k)) → HoldsIndex nodes node k s → items_in entries ≡ spread_items k s
      same_items k e = subst (λ j. (s : Spread (Tree j)) → HoldsIndex nodes node j s → items_in entries ≡ spread_items j s) (sym e)
          (λ s h. g.items ∙ ap (spread_items d) (one_spread nodes d g.s s (g.at ∙ sym h.node) g.stored h.stored))

      pub the_walk : IsTheWalk nodes node entries
      the_walk = record {
        walks = record {
          depth = d;
          small = deep.0;
          s = g.s;
          holds = record {
            node = g.at;
            stored = g.stored;
            once = λ place.
                let a = g.times place in
                let b = at_most_one (list_any (λ vcn. eqb vcn place) met) in
                omega arith;
          };
          is = g.items;
        };
        only = λ items walks. same_items walks.depth (one_depth items walks) walks.s walks.holds ∙ sym walks.is;
      }

-- By what the gathering of the root answers.
pub tells_none : (nodes : Nodes) (node : Node) (d : ℕ) (good : Bool) (met : List ℕ) (entries : List (List ℕ))
    → IsDepth nodes (child_from node.entries node.last 0) 15 (Some d) → good ≡ false → TellsNode good nodes d node [] met [] entries
    → TellsWalk nodes node None
tells_none nodes node d true met entries deep e h = absurd (let f : true ≡ false = e in cc)
tells_none nodes node d false met entries deep e h = lacks_walk nodes node d deep h

pub tells_some : (nodes : Nodes) (node : Node) (d : ℕ) (good : Bool) (met : List ℕ) (entries : List (List ℕ))
    → IsDepth nodes (child_from node.entries node.last 0) 15 (Some d) → good ≡ true → TellsNode good nodes d node [] met [] entries
    → TellsWalk nodes node (Some entries)
tells_some nodes node d true met entries deep e h = the_walk nodes node d deep met entries h
tells_some nodes node d false met entries deep e h = absurd (let f : false ≡ true = e in cc)
