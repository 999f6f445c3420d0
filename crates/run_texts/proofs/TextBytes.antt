-- HOW LONG THE TEXT OF RUNS IS, and how much longer it is told from another last place.
use Rattle.std.proofs.Common.{◌≡◌, ◌<◌, ◌≤◌, ◌+◌, ◌^◌, ℕ, List, [], ◌∷◌, length, Option, Some, None, refl, ap, arith, length-append}
use Rattle.std.specs.Prelude.{unwrap_or, ℤ, pos, negsuc, ◌-ℤ◌}
use Rattle.std.proofs.lemmas.Int.{ints}
use Rattle.ntfs_def.specs.declared.run_text.Run.{Run}
use Rattle.ntfs_def.specs.Runs.{EndsInReach, IsRunListFrom, clusters_of, place_after, run_clusters}
use Rattle.data_runs.specs.Written.{IsOffsetText, IsWrittenFrom}
use Rattle.data_runs.proofs.PieceLaws.{length-run_clusters}
use Rattle.run_texts.specs.Text.{fewest, number_bytes, place_bytes, text_bytes}
use Rattle.run_texts.proofs.Fewest.{IsSmall, bytes-sum, spelled-count, spelled-length}

-- Runs with a cluster each, whose ends are within the limit.
abbrev pub AreRuns : List Run → Type 0
AreRuns [] = Unit {0}
AreRuns (run ∷ runs) = (0 < run.len) × EndsInReach run.len run.lcn × AreRuns runs

pub width-cons : (x : Run) (xs : List Run) → length (clusters_of (x ∷ xs)) ≡ x.len + length (clusters_of xs)
unfolding clusters_of
width-cons x xs = omega (arith, length-append (run_clusters x) (clusters_of xs), length-run_clusters x)

pub width-none : length (clusters_of []) ≡ 0
unfolding clusters_of
width-none = refl

pub listed-runs : (total : ℕ) (runs : List Run) → IsRunListFrom total runs → AreRuns runs
listed-runs total [] h = tt
listed-runs total (x ∷ xs) h = (h.0, h.2, listed-runs (total + x.len) xs h.3)

pub listed-width : (total : ℕ) (runs : List Run) → total ≤ 2 ^ 62 → IsRunListFrom total runs → total + length (clusters_of runs) ≤ 2 ^ 62
listed-width total [] le h = omega (arith, width-none)
listed-width total (x ∷ xs) le h = omega (arith, listed-width (total + x.len) xs h.1 h.3, width-cons x xs)

-- A place of a run is below the limit.
pub place-below : (len : ℕ) (lcn : Option ℕ) (last : ℕ) → 0 < len → EndsInReach len lcn → last < 2 ^ 62 → unwrap_or lcn last < 2 ^ 62
place-below len None last some reach h = h
place-below len (Some place) last some reach h = omega arith

-- A PLACE TOLD FROM ANOTHER LAST ONE
abbrev pub gap : ℕ → ℕ → ℕ
gap a b = number_bytes (pos a -ℤ pos b)

small-gap : (a b : ℕ) → a < 2 ^ 62 → b < 2 ^ 62 → (z : ℤ) → z ≡ pos a -ℤ pos b → IsSmall z
small-gap a b p q (pos n) e = omega (arith, ints)
small-gap a b p q (negsuc n) e = omega (arith, ints)

gap-sum : (a b c : ℕ) → a < 2 ^ 62 → b < 2 ^ 62 → c < 2 ^ 62 → gap a c ≤ gap a b + gap b c
gap-sum a b c p q r =
    bytes-sum (pos a -ℤ pos b) (pos b -ℤ pos c) (pos a -ℤ pos c) (omega (arith, ints)) (small-gap a b p q _ refl) (small-gap b c q r _ refl)

-- the runs behind, of which the first that has a place is told from there
pub shift : (old new : ℕ) (runs : List Run) → old < 2 ^ 62 → new < 2 ^ 62 → AreRuns runs
    → text_bytes new runs ≤ text_bytes old runs + gap old new
shift old new [] p q h = omega arith
shift old new (run ∷ runs) p q h = by run.lcn refl h.1 (shift old new runs p q h.2)
  where
    by : (lcn : Option ℕ) → run.lcn ≡ lcn → EndsInReach run.len lcn → text_bytes new runs ≤ text_bytes old runs + gap old new
        → text_bytes new (run ∷ runs) ≤ text_bytes old (run ∷ runs) + gap old new
    by None e b ih =
        let x = ap (λ lcn. 1 + fewest run.len + place_bytes new lcn + text_bytes (unwrap_or lcn new) runs) e in
        let y = ap (λ lcn. 1 + fewest run.len + place_bytes old lcn + text_bytes (unwrap_or lcn old) runs) e in
        omega (arith, x, y, ih)
    by (Some place) e b ih =
        let some = h.0 in
        let low : place < 2 ^ 62 = omega (arith, some, b) in
        let x = ap (λ lcn. 1 + fewest run.len + place_bytes new lcn + text_bytes (unwrap_or lcn new) runs) e in
        let y = ap (λ lcn. 1 + fewest run.len + place_bytes old lcn + text_bytes (unwrap_or lcn old) runs) e in
        omega (arith, x, y, gap-sum place old new low p q)

-- THE TEXT is so long.
offset-length : (last len : ℕ) (lcn : Option ℕ) (bytes : List ℕ) → last < 2 ^ 62 → 0 < len → EndsInReach len lcn
    → IsOffsetText last lcn bytes
    → length bytes ≡ place_bytes last lcn
offset-length last len None bytes low some reach is = ap length is
offset-length last len (Some place) bytes low some reach is =
    spelled-length (pos place -ℤ pos last) bytes (small-gap place last (omega (arith, some, reach)) low _ refl) is

pub text-length : (last : ℕ) (runs : List Run) (text : List ℕ) → last < 2 ^ 62 → AreRuns runs → length (clusters_of runs) ≤ 2 ^ 62
    → IsWrittenFrom last runs text → length text ≡ text_bytes last runs
text-length last [] text low are few w = ap length w
text-length last (run ∷ runs) text low (some, reach, more) few (first, rest, is, behind, e) =
    let count = width-cons run runs in
    let whole = ap length e in
    let head = ap length is.all in
    let a = spelled-count run.len is.len (omega (arith, few, count)) is.spells_len in
    let b = offset-length last run.len run.lcn is.offset low some reach is.spells_offset in
    let next = text-length (place_after last run) runs rest (place-below run.len run.lcn last some reach low) more
    (omega (arith, few, count)) behind in
    omega (arith, whole, head, length-append first rest, length-append is.len is.offset, a, b, next)
