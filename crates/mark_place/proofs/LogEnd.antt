-- THE LOG BEHIND WHAT IS EMPTIED lies in none of the spans, so it stays where sectors of no span do.
use Rattle.std.proofs.Common.{◌≡◌, ◌+◌, ◌*◌, ◌/◌, ◌%◌, ◌<◌, ◌≤◌, ℕ, Bool, List, length, Some, refl, sym, ap, ◌∙◌, arith}
use Rattle.std.specs.Prelude.{slice_index}
use Rattle.std.proofs.Math.Nat.{mul_assoc, mul_comm}
use Rattle.std.proofs.lemmas.Nat.{div-add-mod', div-mul-add, div_below, mod_below}
use Rattle.list_laws.proofs.PieceLaws.{index_within}
use Rattle.ntfs_def.specs.declared.run_text.Spot.{Spot}
use Rattle.ntfs_def.specs.declared.run_text.Spot.TheVariants.{At, Hole, Outside}
use Rattle.volume_def.specs.Blocks.{cluster_of, place_at}
use Rattle.volume_def.specs.Table.{TableLayout}
use Rattle.volume_def.specs.Values.{spot_at}
use Rattle.volume_def.specs.View.{view_of}
use Rattle.volume_def.proofs.FrameLaws.{piece_of-cluster}
use Rattle.volume_edits.specs.Clusters.{IsOwnStream}
use Rattle.mark_write.specs.Logs.{IsOutside}
use Rattle.mark_write.specs.declared.log.Span.{Span}
use Rattle.session_def.specs.Cost.{log_parts}
use Rattle.session_def.specs.Room.{KeepsLogEnd}
use Rattle.mark_place.specs.LogSpans.{AreLogSpans, IsSectorOf, log_sectors}

-- a sector of the stream behind the first so many is none of these
none-before : (layout : TableLayout) (spot : ℕ → Spot) (count v j cluster : ℕ) → 0 < layout.cluster_sectors → IsOwnStream layout spot
    → spot v ≡ At cluster → j < layout.cluster_sectors → count ≤ v * layout.cluster_sectors + j
    → IsSectorOf layout spot count (cluster * layout.cluster_sectors + j) → ⊥
none-before layout spot count v j cluster some own at inside behind s =
    by (spot (s.k / layout.cluster_sectors)) refl s.is
  where
    by : (x : Spot) → spot (s.k / layout.cluster_sectors) ≡ x → place_at layout s.k x ≡ Some (cluster * layout.cluster_sectors + j) → ⊥
    by Outside e is = cc
    by Hole e is = cc
    by (At c) e is =
        let per = layout.cluster_sectors in
        let place : c * per + s.k % per ≡ cluster * per + j = cc in
        let low = mod_below s.k per some in
        let same : c ≡ cluster = sym (div-mul-add c per (s.k % per) low) ∙ ap (λ x. x / per) place ∙ div-mul-add cluster per j inside in
        let vcn = own.once (s.k / per) v cluster (e ∙ ap At same) at in
        let first : s.k / per * per ≡ v * per = ap (λ x. x * per) vcn in
        let base : c * per ≡ cluster * per = ap (λ x. x * per) same in
        let all = div-add-mod' s.k per in
        let few = s.below in
        omega (arith, place, base, first, all, few, behind)

pub log-end : (told : Bool) (disk disk' : ℕ → List ℕ) (layout : TableLayout) (spans : List Span) → 0 < layout.cluster_sectors
    → IsOwnStream layout (spot_at (log_parts (view_of told disk layout)))
    → ((vcn cluster i : ℕ) → spot_at (log_parts (view_of told disk layout)) vcn ≡ At cluster → i < layout.cluster_sectors
    → (length (disk (cluster * layout.cluster_sectors + i)) ≡ 512) × (length (disk' (cluster * layout.cluster_sectors + i)) ≡ 512))
    → AreLogSpans (view_of told disk layout) spans
    → ((vcn cluster i : ℕ) → spot_at (log_parts (view_of told disk layout)) vcn ≡ At cluster → i < layout.cluster_sectors
    → IsOutside spans (cluster * layout.cluster_sectors + i)
    → disk' (cluster * layout.cluster_sectors + i) ≡ disk (cluster * layout.cluster_sectors + i))
    → KeepsLogEnd (view_of told disk layout) (view_of told disk' layout)
log-end told disk disk' layout spans some own long are same i cluster behind at =
    let view = view_of told disk layout in
    let spot = spot_at (log_parts view) in
    let per = layout.cluster_sectors in
    let v = i / (512 * per) in
    let m = i % (512 * per) in
    let j = m / 512 in
    let b = m % 512 in
    let turned : v * (512 * per) ≡ 512 * (v * per) = sym (mul_assoc v 512 per) ∙ ap (λ x. x * per) (mul_comm v 512) ∙ mul_assoc 512 v per in
    let all = div-add-mod' i (512 * per) in
    let low = mod_below i (512 * per) (omega (arith, some)) in
    let lt : j < per = div_below m 512 per (omega arith) (omega (arith, low)) in
    let k : i / 512 ≡ v * per + j = omega (arith, all, turned) in
    let past : log_sectors view ≤ v * per + j = omega (arith, k, behind) in
    let outside : IsOutside spans (cluster * per + j) = λ n among within.
    none-before layout spot (log_sectors view) v j cluster some own at lt past (are.inside (cluster * per + j)
    (record { i = n; among = among; within = within })) in
    let byte : 512 * j + b ≡ m = omega arith in
    let piece : (d : ℕ → List ℕ) → ((n : ℕ) → n < per → length (d (cluster * per + n)) ≡ 512)
    → slice_index (cluster_of d layout cluster) m ≡ slice_index (d (cluster * per + j)) b = λ d whole.
    ap (slice_index (cluster_of d layout cluster)) (sym byte)
    ∙ sym (index_within (cluster_of d layout cluster) (512 * j) 512 b (omega arith))
    ∙ ap (λ xs. slice_index xs b) (piece_of-cluster d layout cluster j whole lt) in
    piece disk' (λ n l. (long v cluster n at l).1)
    ∙ ap (λ xs. slice_index xs b) (same v cluster j at lt outside)
    ∙ sym (piece disk (λ n l. (long v cluster n at l).0))
