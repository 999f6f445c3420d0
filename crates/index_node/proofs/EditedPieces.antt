-- The bytes of a node's entries as a list: what a node holds, and where one is put in or taken out.
use Rattle.std.proofs.Common.{◌≡◌, ℕ, zero, suc, ◌+◌, ◌-◌, ◌<◌, ◌≤◌, List, [], ◌∷◌, ◌++◌, Bool, length, take, drop, insert, remove}
use Rattle.std.proofs.Common.{slice_range, refl, ap, ◌∙◌, arith}
use Rattle.ntfs_def.specs.Node.{child_len, entry_len, entry_place}
use Rattle.ntfs_def.specs.declared.index.NodeForm.{NodeForm}
use Rattle.index_node.specs.LayOut.{AreEntries, HoldsPieces, node_listed}
use Rattle.index_node.specs.Pieces.{LeadsPiece, piece_at, pieces_from}
use Rattle.index_node.proofs.LayOutLaws.{entry_facts, last_facts, len_same, sixteen_of}
use Rattle.index_node.proofs.PieceLaws.{pieces_before}

-- bytes that hold entries have just those
pub pieces_held : (form : NodeForm) (children : Bool) (node : List ℕ) (at : ℕ) (pieces : List (List ℕ)) → AreEntries form children pieces
    → HoldsPieces node at pieces → pieces_from node at (length (node_listed children pieces).entries) ≡ pieces
pieces_held form children node at [] are holds = absurd are
pieces_held form children node at (piece ∷ []) are holds =
    let facts = last_facts children piece are in
    let len = len_same node piece at holds.0 (sixteen_of (child_len children) (length piece) facts.1) in
    ap (λ n. slice_range node at (at + n) ∷ []) (len ∙ facts.0) ∙ ap (λ p. p ∷ []) holds.0
pieces_held form children node at (piece ∷ next ∷ pieces) are holds =
    let facts = entry_facts form children piece are.0 in
    let len = len_same node piece at holds.0 (sixteen_of (child_len children) (length piece) facts.1) in
    let n = length (node_listed children (next ∷ pieces)).entries in
    ap (λ l. slice_range node at (at + l) ∷ pieces_from node (at + l) n) (len ∙ facts.0)
    ∙ ap (λ p. p ∷ pieces_from node (at + length piece) n) holds.0
    ∙ ap (λ ps. piece ∷ ps) (pieces_held form children node (at + length piece) (next ∷ pieces) are.1 holds.1)

module _ (node : List ℕ) where
  pub length-pieces : (at n : ℕ) → length (pieces_from node at n) ≡ suc n
  length-pieces at zero = refl
  length-pieces at (suc n) = ap (λ k. suc k) (length-pieces (at + entry_len node at) n)

  pub more_pieces : (at n i : ℕ) (piece : List ℕ) → i ≤ n
      → insert (pieces_from node at n) i piece ≡ pieces_before node at i ++ piece ∷ pieces_from node (entry_place node at i) (n - i)
  more_pieces at zero zero piece h = ap (λ k. piece ∷ pieces_from node at k) {x = 0} {y = 0 - 0} (omega arith)
  more_pieces at zero (suc i) piece h = absurd (omega arith)
  more_pieces at (suc n) zero piece h = ap (λ k. piece ∷ pieces_from node at k) {x = suc n} {y = suc n - 0} (omega arith)
  more_pieces at (suc n) (suc i) piece h =
      ap (λ ps. piece_at node at ∷ ps) (more_pieces (at + entry_len node at) n i piece (omega arith))
      ∙ ap (λ k. piece_at node at ∷ pieces_before node (at + entry_len node at) i ++ piece ∷ pieces_from node
      (entry_place node (at + entry_len node at) i) k) {x = n - i} {y = suc n - suc i} (omega arith)

  pub less_pieces : (at n i : ℕ) → i < n
      → remove (pieces_from node at n) i ≡ pieces_before node at i ++ pieces_from node (entry_place node at (suc i)) (n - suc i)
  less_pieces at zero i h = absurd (omega arith)
  less_pieces at (suc n) zero h = ap (pieces_from node (at + entry_len node at)) {x = n} {y = suc n - 1} (omega arith)
  less_pieces at (suc n) (suc i) h =
      ap (λ ps. piece_at node at ∷ ps) (less_pieces (at + entry_len node at) n i (omega arith))
      ∙ ap (λ k. piece_at node at ∷ pieces_before node (at + entry_len node at) i ++ pieces_from node
      (entry_place node (at + entry_len node at) (suc i)) k) {x = n - suc i} {y = suc n - suc (suc i)} (omega arith)

  pub other_pieces : (at n i : ℕ) (piece : List ℕ) → i < n
      → insert (remove (pieces_from node at n) i) i piece
      ≡ pieces_before node at i ++ piece ∷ pieces_from node (entry_place node at (suc i)) (n - suc i)
  other_pieces at zero i piece h = absurd (omega arith)
  other_pieces at (suc n) zero piece h = first n
    where
      first : (n : ℕ) → insert (pieces_from node (at + entry_len node at) n) 0 piece
          ≡ piece ∷ pieces_from node (at + entry_len node at) (suc n - 1)
      first zero = ap (λ k. piece ∷ pieces_from node (at + entry_len node at) k) {x = 0} {y = suc 0 - 1} (omega arith)
      first (suc n) = ap (λ k. piece ∷ pieces_from node (at + entry_len node at) k) {x = suc n} {y = suc (suc n) - 1} (omega arith)
  other_pieces at (suc n) (suc i) piece h =
      ap (λ ps. piece_at node at ∷ ps) (other_pieces (at + entry_len node at) n i piece (omega arith))
      ∙ ap (λ k. piece_at node at ∷ pieces_before node (at + entry_len node at) i ++ piece ∷ pieces_from node
      (entry_place node (at + entry_len node at) (suc i)) k) {x = n - suc i} {y = suc n - suc (suc i)} (omega arith)

  pub pieces_dropped : (at n i : ℕ) → i ≤ n → drop i (pieces_from node at n) ≡ pieces_from node (entry_place node at i) (n - i)
  pieces_dropped at n zero h = ap (pieces_from node at) {x = n} {y = n - 0} (omega arith)
  pieces_dropped at zero (suc i) h = absurd (omega arith)
  pieces_dropped at (suc n) (suc i) h =
      pieces_dropped (at + entry_len node at) n i (omega arith)
      ∙ ap (pieces_from node (entry_place node (at + entry_len node at) i)) {x = n - i} {y = suc n - suc i} (omega arith)

  pub pieces_kept : (at n i : ℕ) → i ≤ n → take i (pieces_from node at n) ≡ pieces_before node at i
  pieces_kept at n zero h = refl
  pieces_kept at zero (suc i) h = absurd (omega arith)
  pieces_kept at (suc n) (suc i) h = ap (λ ps. piece_at node at ∷ ps) (pieces_kept (at + entry_len node at) n i (omega arith))

-- a place that leads where it led
pub leads_itself : (i : ℕ) (pieces : List (List ℕ)) → LeadsPiece i pieces pieces
leads_itself i [] = refl
leads_itself zero (piece ∷ pieces) = (refl, (λ k lt. refl, refl))
leads_itself (suc i) (piece ∷ pieces) = (refl, leads_itself i pieces)
