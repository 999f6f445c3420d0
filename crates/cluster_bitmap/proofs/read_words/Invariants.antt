use Rattle.std.proofs.Common.{◌≡◌, ℕ, ◌*◌, ◌<◌, length}
use Rattle.list_laws.specs.Bits.{bit_in}
use Rattle.cluster_bitmap.specs.Words.{bit_of}
use Rattle.cluster_bitmap.proofs.read_words.Given as goal

abbrev pub invariant-loop-place : goal.invariant-loop-place
invariant-loop-place l = record {
  len : length l.words.items ≡ l.place;
  bits : (k : ℕ) → k < 64 * l.place → k < 8 * length l.bytes → bit_of l.words.items k ≡ bit_in l.bytes k;
}
