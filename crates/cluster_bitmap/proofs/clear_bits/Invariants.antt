use Rattle.std.proofs.Common.{◌≡◌, ◌≤◌, ◌*◌}
use Rattle.cluster_bitmap.specs.Words.{clear_below}
use Rattle.cluster_bitmap.proofs.clear_bits.Given as goal

abbrev pub invariant-words : goal.invariant-words
invariant-words l = record {
  total : l.total ≡ clear_below l.words (64 * l.word-index);
  small : l.total ≤ 64 * l.word-index;
}
