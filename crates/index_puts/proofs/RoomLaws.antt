-- The room of the leaf that was read.
use Rattle.std.proofs.Common.{◌≡◌, ℕ, true, false, List, Option, Some, None, sym, ap, ◌∙◌, true≢false}
use Rattle.std.proofs.lemmas.Bool.{leb-true}
use Rattle.std.specs.Option.{option_and_then, option_map_or}
use Rattle.std.specs.Prelude.{IsTrue, nat_le}
use Rattle.std.specs.declared.cmp.Ordering.{Ordering}
use Rattle.ntfs_def.specs.Node.{Node, node_in, short_node}
use Rattle.ntfs_def.specs.declared.index.NodeForm.TheVariants.{Names}
use Rattle.index_node.specs.Edit.{HasRoomFor}
use Rattle.index_tree.specs.Edit.{short_nodes}
use Rattle.index_tree.proofs.EditMemory.{short_in}
use Rattle.index_puts.specs.declared.leaf.Leaf.{Leaf}
use Rattle.index_puts.specs.Leaf.{ReadsLeaf, room_under}
use Rattle.tree_model.specs.LeafRoom.{has_room, leaf_of, node_room}
use Rattle.index_puts.proofs.BytesLaws.{room_fits}
use Rattle.index_puts.proofs.LeafLaws.{leaf_of-said}

module _ (side : List ℕ → Ordering) (r : ℕ → Option (List ℕ)) (root : Option Node) (block : List ℕ) where
  -- no leaf, no room
  pub no_leaf : (len : ℕ) → ReadsLeaf r (leaf_of side (short_nodes Names r) root) None block → false ≡ room_under side r root len
  no_leaf len reads = ap (λ leaf. option_map_or (has_room len) (option_and_then r leaf) false) reads.is

  pub leaf_missing : (len : ℕ) → ReadsLeaf r (leaf_of side (short_nodes Names r) root) None block → IsTrue (room_under side r root len) → ⊥
  leaf_missing len reads room = true≢false (sym (no_leaf len reads ∙ room))

  module _ (leaf : Leaf) (reads : ReadsLeaf r (leaf_of side (short_nodes Names r) root) (Some leaf) block) where
    -- the bytes that were read say a node
    pub leaf_node : (said : Node) × (short_node Names block ≡ Some said)
    leaf_node =
        let node = leaf_of-said side (short_nodes Names r) root leaf.vcn (sym reads.is) in
        (node.said, sym (ap (option_and_then (short_node Names)) reads.bytes) ∙ node.is)

    leaf_has : (len : ℕ) → room_under side r root len ≡ has_room len block
    leaf_has len =
        sym (ap (λ leaf. option_map_or (has_room len) (option_and_then r leaf) false) reads.is)
        ∙ ap (λ bytes. option_map_or (has_room len) bytes false) reads.bytes

    -- and its room is that of the leaf
    pub leaf_room : (len room : ℕ) → ((said : Node) → node_in Names block ≡ Some said → room ≡ node_room block said)
        → nat_le len room ≡ room_under side r root len
    leaf_room len room is =
        let node = leaf_node in
        ap (nat_le len) (is node.0 (short_in Names block node.0 node.1))
        ∙ sym (leaf_has len ∙ ap (λ o. option_map_or (λ (said : Node). nat_le len (node_room block said)) o false) node.1)

    -- an entry fits that has room
    pub leaf_fits : (len : ℕ) → IsTrue (room_under side r root len) → HasRoomFor Names block len
    leaf_fits len room =
        let node = leaf_node in
        let has : has_room len block ≡ true = sym (leaf_has len) ∙ room in
        room_fits block node.0 len (short_in Names block node.0 node.1)
        (leb-true len (node_room block node.0)
        (sym (ap (λ o. option_map_or (λ (said : Node). nat_le len (node_room block said)) o false) node.1) ∙ has))
