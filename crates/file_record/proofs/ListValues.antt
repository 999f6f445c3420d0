-- The value of a list that lies in clusters.
use Rattle.std.proofs.Common.{◌≡◌, ℕ, ◌+◌, ◌-◌, List, ◌++◌, length, drop, replicate, map, min, sym, ap, ◌∙◌, arith, cond}
use Rattle.std.proofs.lemmas.Bool.{lt-ltb, le-ltb}
use Rattle.std.proofs.lemmas.List.{drop-replicate}
use Rattle.std.specs.List.{range_with_len}
use Rattle.ntfs_def.specs.declared.run_text.Spot.{Spot}
use Rattle.volume_def.specs.Values.{stored_byte, stored_bytes, value_byte}
use Rattle.list_laws.proofs.RangeLaws.{bytes-append, map_ranges, bytes-zero}

-- bytes that were read, with zeros behind them
pub value-filled : (cluster : ℕ → List ℕ) (size : ℕ) (spot : ℕ → Spot) (initialized written n : ℕ) (into old : List ℕ) → n ≡ written
    → written ≡ min initialized (length old) → old ≡ replicate (length old) 0 → into ≡ stored_bytes cluster size spot 0 n
    → into ++ drop written old ≡ map (value_byte cluster size spot initialized) (range_with_len 0 (length old))
unfolding stored_bytes
value-filled cluster size spot initialized written n into old whole least zeros read =
    let front : into ≡ map (value_byte cluster size spot initialized) (range_with_len 0 written) =
    read ∙ ap (λ k. map (stored_byte cluster size spot) (range_with_len 0 k)) whole
    ∙ map_ranges (stored_byte cluster size spot) (value_byte cluster size spot initialized) 0 0 written
    (λ j lt. sym (ap (λ b. cond b (stored_byte cluster size spot (0 + j)) 0) (lt-ltb (0 + j) initialized (omega arith)))) in
    let behind : drop written old ≡ map (value_byte cluster size spot initialized) (range_with_len written (length old - written)) =
    ap (drop written) zeros ∙ drop-replicate written (length old) 0
    ∙ bytes-zero (value_byte cluster size spot initialized) written (length old - written)
    (λ j lt. ap (λ b. cond b (stored_byte cluster size spot (written + j)) 0) (le-ltb (written + j) initialized (omega arith))) in
    let all : written + (length old - written) ≡ length old = omega arith in
    ap (λ xs. xs ++ drop written old) front
    ∙ ap (λ xs. map (value_byte cluster size spot initialized) (range_with_len 0 written) ++ xs) behind
    ∙ bytes-append (value_byte cluster size spot initialized) 0 written written (length old - written) (omega arith)
    ∙ ap (λ k. map (value_byte cluster size spot initialized) (range_with_len 0 k)) all
