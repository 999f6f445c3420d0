-- What the sectors of an item hold, its clusters hold.
use Rattle.std.proofs.Common.{◌≡◌, ℕ, zero, suc, ◌+◌, ◌*◌, ◌-◌, ◌/◌, ◌%◌, ◌<◌, ◌≤◌, List, length, get_or, inl, inr, ap, ◌∙◌, arith}
use Rattle.std.specs.List.{flat_map, range_with_len}
use Rattle.std.proofs.lemmas.Bool.{cases_lt}
use Rattle.std.proofs.lemmas.List.{get_or_append_left, get_or-append_right}
use Rattle.std.proofs.lemmas.List.Concat.{flat_map-cons}
use Rattle.std.proofs.lemmas.List.FromFn.{length-map-range_with_len, get_or-map-range_with_len}
use Rattle.std.proofs.Math.Nat.{mod-lt, div-add-mod}
use Rattle.volume_def.specs.Blocks.{cluster_of}
use Rattle.volume_def.specs.Table.{TableLayout, cluster_bytes}
use Rattle.volume_format.specs.Items.{HoldsItem, StandsAt, item_sector}

-- a byte of pieces, where those up to its own have 512 bytes
get_or-pieces : (piece : ℕ → List ℕ) (from n x : ℕ) → ((j : ℕ) → from ≤ j → j ≤ from + x / 512 → length (piece j) ≡ 512) → x < 512 * n
    → get_or (flat_map piece (range_with_len from n)) x 0 ≡ get_or (piece (from + x / 512)) (x % 512) 0
get_or-pieces piece from zero x long lt = absurd (omega arith)
get_or-pieces piece from (suc n) x long lt =
    ap (λ (bytes : List ℕ). get_or bytes x 0) (flat_map-cons piece from (range_with_len (from + 1) n)) ∙ (
    let first = long from (omega arith) (omega arith) in
    elim (cases_lt x 512) [
      | inl low ↦
          let q : from ≡ from + x / 512 = omega arith in
          let r : x ≡ x % 512 = omega arith in
          get_or_append_left (piece from) _ 0 x (omega (arith, first)) ∙ ap (λ (k : ℕ). get_or (piece k) x 0) q
          ∙ ap (λ (k : ℕ). get_or (piece (from + x / 512)) k 0) r
      | inr high ↦
          let q : from + 1 + (x - 512) / 512 ≡ from + x / 512 = omega arith in
          let r : (x - 512) % 512 ≡ x % 512 = omega arith in
          get_or-append_right (piece from) _ 512 x 0 first high
          ∙ get_or-pieces piece (from + 1) n (x - 512) (λ j l h. long j (omega arith) (omega (arith, q))) (omega arith)
          ∙ ap (λ (k : ℕ). get_or (piece k) ((x - 512) % 512) 0) q ∙ ap (λ (k : ℕ). get_or (piece (from + x / 512)) k 0) r
    ])

module _ (disk : ℕ → List ℕ) (layout : TableLayout) (at count len : ℕ) (rule : ℕ → ℕ)
    (some : 0 < layout.cluster_sectors) (stands : StandsAt disk layout.cluster_sectors at count rule) (fits : len ≤ 512 * count) where
  abbrev per : ℕ
  per = layout.cluster_sectors

  -- sector s of cluster q of the item
  sector : (q s : ℕ) → q * per + s < count → disk ((at + q) * per + s) ≡ item_sector rule (q * per + s)
  sector q s inside =
      let place : (at + q) * per + s ≡ at * per + (q * per + s) = omega arith in
      ap disk place ∙ stands.sector (q * per + s) inside

  long : (q s : ℕ) → q * per + s < count → length (disk ((at + q) * per + s)) ≡ 512
  long q s inside = ap length (sector q s inside) ∙ length-map-range_with_len rule (512 * (q * per + s)) 512

  byte_at : (q x : ℕ) → x < 512 * per → 512 * (q * per) + x < len
      → get_or (cluster_of disk layout (at + q)) x 0 ≡ rule (512 * (q * per) + x)
  unfolding cluster_of
  byte_at q x within inside =
      get_or-pieces (λ s. disk ((at + q) * per + s)) 0 per x (λ s low high. long q s (omega arith)) within
      ∙ ap (λ (k : ℕ). get_or (disk ((at + q) * per + k)) (x % 512) 0) (omega arith)
      ∙ ap (λ (bytes : List ℕ). get_or bytes (x % 512) 0) (sector q (x / 512) (omega arith))
      ∙ get_or-map-range_with_len rule (512 * (q * per + x / 512)) 512 (x % 512) (512 * (q * per + x / 512) + x % 512) 0
      (omega arith) (omega arith)
      ∙ ap rule (omega arith)

  byte : (i : ℕ) → i < len → get_or (cluster_of disk layout (at + i / cluster_bytes layout)) (i % cluster_bytes layout) 0 ≡ rule i
  byte i lt =
      let bytes : 0 < cluster_bytes layout = omega arith in
      let below : i % cluster_bytes layout < 512 * per = mod-lt i bytes in
      let whole : 512 * per * (i / cluster_bytes layout) + i % cluster_bytes layout ≡ i = div-add-mod i (512 * per) in
      byte_at (i / cluster_bytes layout) (i % cluster_bytes layout) below (omega (arith, whole, lt)) ∙ ap rule (omega (arith, whole))

  pub HoldsItem-stands : HoldsItem (cluster_of disk layout) (cluster_bytes layout) at len rule
  HoldsItem-stands = record { byte = byte }
