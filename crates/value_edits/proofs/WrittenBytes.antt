-- Bytes that are put into a value are those that the machine writes into a stream.
use Rattle.std.proofs.Common.{◌≡◌, ℕ, ◌+◌, ◌-◌, ◌≤◌, ◌++◌, List, [], drop, inl, inr, length, max, replicate, take, take_all, ap}
use Rattle.std.proofs.Common.{sym, ◌∙◌, arith}
use Rattle.std.proofs.lemmas.Bool.{cases_lt}
use Rattle.std.proofs.lemmas.List.{append-nil, append_assoc, drop-replicate, drop_all, length-append, length-drop, length-replicate}
use Rattle.std.proofs.lemmas.List.{length-take, take-append-le, take-replicate}
use Rattle.std.proofs.Math.Seq.{drop-append-add, take-append-add}
use Rattle.attr_view.specs.Values.{with_length}
use Rattle.extent_edits.specs.Attributes.{with_bytes_at}
use Rattle.tree_model.specs.Streams.{resized, written}

-- bytes that were given another length have that
pub resized-long : (size : ℕ) (old : List ℕ) → length (resized size old) ≡ size
resized-long size old =
    let whole = length-append (take size old) (replicate (size - length old) 0) in
    let front = length-take size old in
    let behind = length-replicate {A = ℕ} (size - length old) 0 in
    omega (arith, whole, front, behind)

-- .. and those that were written into end behind what was put there, or where they did
pub written-long : (at : ℕ) (bytes old : List ℕ) → length (written at bytes old) ≡ max (length old) (at + length bytes)
written-long at bytes old = simp (length-append, length-take, length-replicate, length-drop) (omega arith)

-- a value that is made longer is followed by zeros
longer : (n : ℕ) (held : List ℕ) → length held ≤ n → with_length n held ≡ held ++ replicate (n - length held) 0
longer n held le = ap (λ xs. xs ++ replicate (n - length held) 0) (take_all n held le)

-- what stands in front of the bytes then
front : (at n : ℕ) (held : List ℕ) → at ≤ n → length held ≤ n
    → take at (with_length n held) ≡ take at held ++ replicate (at - length held) 0
front at n held fits le = ap (take at) (longer n held le) ∙ elim (cases_lt (length held) at) [
  | inl short ↦
      let more : at ≡ length held + (at - length held) = omega (arith, short) in
      ap (λ k. take k (held ++ replicate (n - length held) 0)) more
      ∙ take-append-add held (replicate (n - length held) 0) (at - length held)
      ∙ ap (λ xs. held ++ xs) (take-replicate (at - length held) (n - length held) 0 (omega (arith, fits)))
      ∙ sym (ap (λ xs. xs ++ replicate (at - length held) 0) (take_all at held (omega (arith, short))))
  | inr inside ↦
      let none : at - length held ≡ 0 = omega (arith, inside) in
      take-append-le at held (replicate (n - length held) 0) (omega (arith, inside))
      ∙ sym (ap (λ k. take at held ++ replicate k 0) none ∙ append-nil (take at held))
]

-- what stands behind them
past : (end k : ℕ) (held : List ℕ) → end ≡ length held + k → drop end (held ++ replicate k 0) ≡ []
past end k held more =
    let none : k - k ≡ 0 = omega arith in
    ap (λ e. drop e (held ++ replicate k 0)) more ∙ drop-append-add held (replicate k 0) k ∙ drop-replicate k k 0
    ∙ ap (λ n. replicate n 0) none

within : (end k : ℕ) (held : List ℕ) → k ≡ 0 → drop end (held ++ replicate k 0) ≡ drop end held
within end k held none = ap (λ n. drop end (held ++ replicate n 0)) none ∙ ap (drop end) (append-nil held)

behind : (end : ℕ) (held : List ℕ) → drop end (with_length (max end (length held)) held) ≡ drop end held
behind end held = ap (drop end) (longer (max end (length held)) held (omega arith)) ∙ elim (cases_lt (length held) end) [
  | inl short ↦ past end (max end (length held) - length held) held (omega (arith, short)) ∙ sym (drop_all end held (omega (arith, short)))
  | inr inside ↦ within end (max end (length held) - length held) held (omega (arith, inside))
]

pub written-put : (at : ℕ) (bytes held : List ℕ) → with_bytes_at at bytes held ≡ written at bytes held
written-put at bytes held =
    let n : ℕ = max (at + length bytes) (length held) in
    ap (λ xs. xs ++ (bytes ++ drop (at + length bytes) (with_length n held))) (front at n held (omega arith) (omega arith))
    ∙ ap (λ xs. take at held ++ replicate (at - length held) 0 ++ (bytes ++ xs)) (behind (at + length bytes) held)
    ∙ sym (append_assoc (take at held ++ replicate (at - length held) 0) bytes (drop (at + length bytes) held))
