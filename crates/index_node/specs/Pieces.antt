-- The bytes of a node's entries, each whole and as it stands, the last one's last; and what an edit makes of the list of them.
use Rattle.std.specs.Prelude.{◌≡◌, ℕ, zero, suc, ◌+◌, ◌<◌, List, [], ◌∷◌, length, slice_index, slice_range, Some}
use Rattle.ntfs_def.specs.Node.{Node, entry_len, first_entry, node_in}
use Rattle.ntfs_def.specs.declared.index.NodeForm.{NodeForm}

-- the bytes of what stands at a place
abbrev pub piece_at : List ℕ → ℕ → List ℕ
piece_at node at = slice_range node at (at + entry_len node at)

-- so many entries from a place on, and the last one
abbrev pub pieces_from : List ℕ → ℕ → ℕ → List (List ℕ)
pieces_from node at zero = piece_at node at ∷ []
pieces_from node at (suc n) = piece_at node at ∷ pieces_from node (at + entry_len node at) n

-- all of the bytes that say this node
abbrev pub pieces_of : List ℕ → Node → List (List ℕ)
pieces_of node said = pieces_from node (first_entry node) (length said.entries)

-- Whatever nodes the bytes said and say, `Change` relates the bytes of their entries.
abbrev pub EditsPieces : NodeForm → List ℕ → List ℕ → (List (List ℕ) → List (List ℕ) → Type 0) → Type 0
EditsPieces form old new Change =
    (said said' : Node) → node_in form old ≡ Some said → node_in form new ≡ Some said' → Change (pieces_of old said) (pieces_of new said')

-- Entry i, or the last one, may have another child, whose number its last eight bytes are; all other bytes are the same.
abbrev pub LeadsPiece : ℕ → List (List ℕ) → List (List ℕ) → Type 0
LeadsPiece i [] new = new ≡ []
LeadsPiece i (piece ∷ pieces) [] = ⊥
LeadsPiece zero (piece ∷ pieces) (piece' ∷ pieces') =
    (length piece' ≡ length piece) × (((k : ℕ) → k + 8 < length piece → slice_index piece' k ≡ slice_index piece k) × (pieces' ≡ pieces))
LeadsPiece (suc i) (piece ∷ pieces) (piece' ∷ pieces') = (piece' ≡ piece) × LeadsPiece i pieces pieces'
