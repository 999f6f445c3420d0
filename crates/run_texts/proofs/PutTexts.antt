-- HOW MUCH LONGER THE TEXT GETS where a run is put in place of as many clusters: of a hole, or as a hole.
use Rattle.std.proofs.Common.{◌≡◌, ◌<◌, ◌≤◌, ◌+◌, ◌-◌, ◌^◌, ◌⊎◌, ℕ, zero, suc, cond, List, [], ◌∷◌, ◌++◌, length, get_or}
use Rattle.std.proofs.Common.{Option, Some, None, refl, sym, subst, inl, inr, ◌∙◌, arith}
use Rattle.std.specs.Prelude.{unwrap_or, pos, ◌-ℤ◌}
use Rattle.std.specs.Option.{option_map}
use Rattle.std.proofs.lemmas.Bool.{cases_lt, le-ltb, lt-ltb}
use Rattle.std.proofs.lemmas.List.{get_or-append_right}
use Rattle.ntfs_def.specs.declared.run_text.Run.{Run}
use Rattle.ntfs_def.specs.Runs.{EndsInReach, clusters_of, place_after, run_clusters}
use Rattle.data_runs.specs.Left.{without_first}
use Rattle.data_runs.proofs.PieceLaws.{length-run_clusters}
use Rattle.run_texts.specs.Text.{run_bytes, text_bytes}
use Rattle.run_texts.proofs.ApartOnce.{first-at}
use Rattle.run_texts.proofs.Fewest.{bytes-few, fewest-few, fewest-mono}
use Rattle.run_texts.proofs.JoinedRuns.{run_of}
use Rattle.run_texts.proofs.PutRuns.{cut_back, first_of, put_in}
use Rattle.run_texts.proofs.TextBytes.{AreRuns, place-below, shift, width-cons}

-- What is left of a run, told from any place, with the runs behind it: their places are told from there.
without-text : (last other n k : ℕ) (lcn : Option ℕ) (xs : List Run) → last < 2 ^ 62 → other < 2 ^ 62 → k < n → n < 2 ^ 63
    → EndsInReach n lcn → AreRuns xs
    → text_bytes other (without_first (run_of n lcn) k ∷ xs) ≤ text_bytes last (run_of n lcn ∷ xs) + 16
without-text last other n k None xs low low' lt small reach are =
    omega (arith, fewest-mono (n - k) n (omega arith) small, shift last other xs low low' are, bytes-few (pos last -ℤ pos other))
without-text last other n k (Some q) xs low low' lt small reach are =
    omega (
      arith,
      fewest-mono (n - k) n (omega arith) small,
      shift q (q + k) xs (omega (arith, reach, lt)) (omega (arith, reach, lt)) are,
      bytes-few (pos q -ℤ pos (q + k)),
      bytes-few (pos (q + k) -ℤ pos other),
    )

back-text : (last other : ℕ) (xs : List Run) (n : ℕ) → last < 2 ^ 62 → other < 2 ^ 62 → AreRuns xs → length (clusters_of xs) ≤ 2 ^ 62
    → text_bytes other (cut_back xs n) ≤ text_bytes last xs + 16
back-text last other [] n low low' are few = omega arith
back-text last other (x ∷ xs) n low low' are few =
    let count = width-cons x xs in
    by (cases_lt n x.len)
    (back-text (place_after last x) other xs (n - x.len) (place-below x.len x.lcn last are.0 are.1 low) low' are.2
    (omega (arith, few, count)))
  where
    by : (n < x.len) ⊎ (x.len ≤ n) → text_bytes other (cut_back xs (n - x.len)) ≤ text_bytes (place_after last x) xs + 16
        → text_bytes other (cut_back (x ∷ xs) n) ≤ text_bytes last (x ∷ xs) + 16
    by (inl l) ih =
        let count = width-cons x xs in
        subst (λ b. text_bytes other (cond b (without_first x n ∷ xs) (cut_back xs (n - x.len))) ≤ text_bytes last (x ∷ xs) + 16)
        (sym (lt-ltb n x.len l))
        (without-text last other x.len n x.lcn xs low low' l (omega (arith, few, count)) are.1 are.2)
    by (inr g) ih =
        subst (λ b. text_bytes other (cond b (without_first x n ∷ xs) (cut_back xs (n - x.len))) ≤ text_bytes last (x ∷ xs) + 16)
        (sym (le-ltb n x.len g))
        (omega (arith, ih))

-- A run within another, one of which is a hole: the run, and what is left of the other behind it.
within-text : (last other n k len : ℕ) (lcn place : Option ℕ) (xs : List Run) → last < 2 ^ 62 → other < 2 ^ 62 → k < n → 0 < n → 0 < len
    → EndsInReach n lcn → EndsInReach len place → AreRuns xs → (place ≡ None) ⊎ (lcn ≡ None)
    → text_bytes other (run_of len place ∷ without_first (run_of n lcn) k ∷ xs) ≤ text_bytes (unwrap_or lcn last) xs + 34
within-text last other n k len None None xs low low' lt some more reach to are hole =
    omega (arith, fewest-few len, fewest-few (n - k), shift last other xs low low' are, bytes-few (pos last -ℤ pos other))
within-text last other n k len (Some q) None xs low low' lt some more reach to are hole =
    omega (
      arith,
      fewest-few len,
      fewest-few (n - k),
      shift q (q + k) xs (omega (arith, reach, lt)) (omega (arith, reach, lt)) are,
      bytes-few (pos q -ℤ pos (q + k)),
      bytes-few (pos (q + k) -ℤ pos other),
    )
within-text last other n k len None (Some p) xs low low' lt some more reach to are hole =
    omega (
      arith,
      fewest-few len,
      fewest-few (n - k),
      shift last p xs low (omega (arith, to, more)) are,
      bytes-few (pos last -ℤ pos p),
      bytes-few (pos p -ℤ pos other),
    )
within-text last other n k len (Some q) (Some p) xs low low' lt some more reach to are (inl e) = cc
within-text last other n k len (Some q) (Some p) xs low low' lt some more reach to are (inr e) = cc

place-few : (last len : ℕ) (lcn : Option ℕ) → run_bytes last (run_of len lcn) ≤ 17
place-few last len None = omega (arith, fewest-few len)
place-few last len (Some p) = omega (arith, fewest-few len, bytes-few (pos p -ℤ pos last))

-- A run put in from a cluster of another on.
tail-text : (last other : ℕ) (x run : Run) (xs : List Run) (end : ℕ) → last < 2 ^ 62 → other < 2 ^ 62 → AreRuns (x ∷ xs)
    → AreRuns (run ∷ [])
    → length (clusters_of (x ∷ xs)) ≤ 2 ^ 62 → (run.lcn ≡ None) ⊎ (x.lcn ≡ None)
    → text_bytes other (run ∷ cut_back (x ∷ xs) end) ≤ text_bytes (place_after last x) xs + 34
tail-text last other x run xs end low low' are is few hole = by (cases_lt end x.len)
  where
    by : (end < x.len) ⊎ (x.len ≤ end) → text_bytes other (run ∷ cut_back (x ∷ xs) end) ≤ text_bytes (place_after last x) xs + 34
    by (inl l) =
        subst (λ b. text_bytes other (run ∷ cond b (without_first x end ∷ xs) (cut_back xs (end - x.len)))
        ≤ text_bytes (place_after last x) xs + 34) (sym (lt-ltb end x.len l))
        (within-text last other x.len end run.len x.lcn run.lcn xs low low' l are.0 is.0 are.1 is.1 are.2 hole)
    by (inr g) =
        let count = width-cons x xs in
        let behind = back-text (place_after last x) (place_after other run) xs (end - x.len)
        (place-below x.len x.lcn last are.0 are.1 low) (place-below run.len run.lcn other is.0 is.1 low') are.2
        (omega (arith, few, count)) in
        subst (λ b. text_bytes other (run ∷ cond b (without_first x end ∷ xs) (cut_back xs (end - x.len)))
        ≤ text_bytes (place_after last x) xs + 34) (sym (le-ltb end x.len g))
        (omega (arith, behind, place-few other run.len run.lcn))

-- with the clusters before it
first-text : (last : ℕ) (x : Run) (at : ℕ) (rest : List Run) (bound : ℕ) → last < 2 ^ 62 → 0 < x.len → EndsInReach x.len x.lcn
    → x.len < 2 ^ 63 → at < x.len → ((m : ℕ) → m < 2 ^ 62 → text_bytes m rest ≤ bound)
    → text_bytes last (first_of x at ++ rest) ≤ run_bytes last x + bound
first-text last x zero rest bound low some reach small h each = omega (arith, each last low)
first-text last x (suc n) rest bound low some reach small h each =
    omega (
      arith,
      each (place_after last x) (place-below x.len x.lcn last some reach low),
      fewest-mono (suc n) x.len
          (omega (arith, h)) small,
    )

-- a hole
no-place : (lcn : Option ℕ) (n : ℕ) → option_map (λ place. place + n) lcn ≡ None → lcn ≡ None
no-place None n e = refl
no-place (Some p) n e = cc

behind-at : (x : Run) (xs : List Run) (n : ℕ) → x.len ≤ n → get_or (clusters_of (x ∷ xs)) n None ≡ get_or (clusters_of xs) (n - x.len) None
unfolding clusters_of
behind-at x xs n h = get_or-append_right (run_clusters x) (clusters_of xs) x.len n None (length-run_clusters x) h

-- THE TEXT OF THE WHOLE LIST is 34 bytes longer at most.
pub put-text : (last : ℕ) (xs : List Run) (at : ℕ) (run : Run) → last < 2 ^ 62 → AreRuns xs → AreRuns (run ∷ [])
    → length (clusters_of xs) ≤ 2 ^ 62 → at < length (clusters_of xs) → (run.lcn ≡ None) ⊎ (get_or (clusters_of xs) at None ≡ None)
    → text_bytes last (put_in xs at run) ≤ text_bytes last xs + 34
unfolding clusters_of
put-text last [] at run low are is few h hole = absurd (omega (arith, h))
put-text last (x ∷ xs) at run low are is few h hole =
    by (cases_lt at x.len) (put-text (place_after last x) xs (at - x.len) run (place-below x.len x.lcn last are.0 are.1 low) are.2 is)
  where
    here : at < x.len → (run.lcn ≡ None) ⊎ (get_or (clusters_of (x ∷ xs)) at None ≡ None) → (run.lcn ≡ None) ⊎ (x.lcn ≡ None)
    here l (inl e) = inl e
    here l (inr e) = inr (no-place x.lcn at (sym (first-at x xs at l) ∙ e))

    later : x.len ≤ at → (run.lcn ≡ None) ⊎ (get_or (clusters_of (x ∷ xs)) at None ≡ None)
        → (run.lcn ≡ None) ⊎ (get_or (clusters_of xs) (at - x.len) None ≡ None)
    later g (inl e) = inl e
    later g (inr e) = inr (sym (behind-at x xs at g) ∙ e)

    by : (at < x.len) ⊎ (x.len ≤ at)
        → (length (clusters_of xs) ≤ 2 ^ 62 → at - x.len < length (clusters_of xs)
        → (run.lcn ≡ None) ⊎ (get_or (clusters_of xs) (at - x.len) None ≡ None)
        → text_bytes (place_after last x) (put_in xs (at - x.len) run) ≤ text_bytes (place_after last x) xs + 34)
        → text_bytes last (put_in (x ∷ xs) at run) ≤ text_bytes last (x ∷ xs) + 34
    by (inl l) ih =
        let count = width-cons x xs in
        let rest = run ∷ cut_back (x ∷ xs) (at + run.len) in
        let whole = first-text last x at rest (text_bytes (place_after last x) xs + 34) low are.0 are.1 (omega (arith, few, count)) l
        (λ m small. tail-text last m x run xs (at + run.len) low small are is few (here l hole)) in
        subst (λ b. text_bytes last (cond b (first_of x at ++ rest) (x ∷ put_in xs (at - x.len) run)) ≤ text_bytes last (x ∷ xs) + 34)
        (sym (lt-ltb at x.len l)) (omega (arith, whole))
    by (inr g) ih =
        let count = width-cons x xs in
        let rest = run ∷ cut_back (x ∷ xs) (at + run.len) in
        let behind = ih (omega (arith, few, count)) (omega (arith, h, count)) (later g hole) in
        subst (λ b. text_bytes last (cond b (first_of x at ++ rest) (x ∷ put_in xs (at - x.len) run)) ≤ text_bytes last (x ∷ xs) + 34)
        (sym (le-ltb at x.len g)) (omega (arith, behind))
