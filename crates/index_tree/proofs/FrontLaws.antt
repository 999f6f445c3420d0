-- The fields of an `$INDEX_ROOT` in front of its node.
use Rattle.std.proofs.Common.{◌≡◌, ℕ, List, take, arith}
use Rattle.index_node.specs.LayOut.{KeepsHeader}
use Rattle.index_node.proofs.LayOutLaws.{header_low, range_same}

-- they stay where the node's header is kept
pub front-kept : (old new : List ℕ) → KeepsHeader old new → take 16 new ≡ take 16 old
front-kept old new keeps = range_same old new 0 16 keeps.len (λ k from to. keeps.before k (omega (arith, header_low old)))
