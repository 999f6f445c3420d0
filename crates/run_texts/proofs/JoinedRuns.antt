-- NEIGHBOURS THAT ARE ONE, JOINED: the text gets no longer, the clusters stay, and no two neighbours are one then.
use Rattle.std.proofs.Common.{◌≡◌, ◌<◌, ◌≤◌, ◌+◌, ◌==◌, ◌^◌, ℕ, Bool, true, false, cond, List, [], ◌∷◌, ◌++◌, length, Option, Some}
use Rattle.std.proofs.Common.{None, refl, ap}
use Rattle.std.proofs.Common.{◌∙◌, arith, append_assoc, if◌then◌else◌}
use Rattle.std.proofs.lemmas.Bool.{eqb-true}
use Rattle.ntfs_def.specs.declared.run_text.Run.{Run}
use Rattle.ntfs_def.specs.Runs.{EndsInReach, clusters_of, place_after, run_clusters}
use Rattle.data_runs.specs.Pieces.{AreApart, IsApartFrom, goes_on, joins}
use Rattle.data_runs.proofs.PieceLaws.{goes-on-reach, run_clusters-joined}
use Rattle.run_texts.specs.Text.{text_bytes}
use Rattle.run_texts.proofs.Fewest.{fewest-sum}
use Rattle.run_texts.proofs.TextBytes.{AreRuns, place-below, shift, width-cons}

abbrev pub whole_of : Run → Run → Run
whole_of x y = record { len = x.len + y.len; lcn = x.lcn }

-- a run before others, joined to the first of them where they are one
abbrev pub joined_front : Run → List Run → List Run
joined_front x [] = x ∷ []
joined_front x (y ∷ ys) = if joins x y then whole_of x y ∷ ys else x ∷ y ∷ ys

abbrev pub joined_all : List Run → List Run
joined_all [] = []
joined_all (x ∷ xs) = joined_front x (joined_all xs)

-- THE CLUSTERS stay ..
clusters-front : (x : Run) (ys : List Run) → clusters_of (joined_front x ys) ≡ run_clusters x ++ clusters_of ys
unfolding clusters_of
clusters-front x [] = refl
clusters-front x (y ∷ ys) = by (joins x y) refl
  where
    by : (b : Bool) → joins x y ≡ b → clusters_of (cond b (whole_of x y ∷ ys) (x ∷ y ∷ ys)) ≡ run_clusters x
        ++ (run_clusters y ++ clusters_of ys)
    by true e =
        ap (λ l. l ++ clusters_of ys) (run_clusters-joined x y (whole_of x y) e refl refl)
        ∙ append_assoc (run_clusters x) (run_clusters y) (clusters_of ys)
    by false e = refl

pub clusters-all : (xs : List Run) → clusters_of (joined_all xs) ≡ clusters_of xs
unfolding clusters_of
clusters-all [] = refl
clusters-all (x ∷ xs) = clusters-front x (joined_all xs) ∙ ap (λ l. run_clusters x ++ l) (clusters-all xs)

-- .. each is a run still ..
runs-front : (x : Run) (ys : List Run) → 0 < x.len → EndsInReach x.len x.lcn → AreRuns ys → AreRuns (joined_front x ys)
runs-front x [] some reach are = (some, reach, tt)
runs-front x (y ∷ ys) some reach are = by (joins x y) refl
  where
    by : (b : Bool) → joins x y ≡ b → AreRuns (cond b (whole_of x y ∷ ys) (x ∷ y ∷ ys))
    by true e = (omega arith, goes-on-reach x.lcn y.lcn x.len y.len e reach are.1, are.2)
    by false e = (some, reach, are)

pub runs-all : (xs : List Run) → AreRuns xs → AreRuns (joined_all xs)
runs-all [] are = tt
runs-all (x ∷ xs) are = runs-front x (joined_all xs) are.0 are.1 (runs-all xs are.2)

-- .. and no two neighbours are one.
goes-on-whole : (lcn next : Option ℕ) (len more : ℕ) (last : Option ℕ) → goes_on lcn len next ≡ true
    → goes_on lcn (len + more) last ≡ goes_on next more last
goes-on-whole None None len more last e = refl
goes-on-whole None (Some q) len more last e = cc
goes-on-whole (Some p) None len more last e = cc
goes-on-whole (Some p) (Some q) len more None e = refl
goes-on-whole (Some p) (Some q) len more (Some r) e =
    let same = eqb-true (p + len) q e in
    let far : p + (len + more) ≡ q + more = omega arith in
    ap (λ n. n == r) far

apart-front : (x : Run) (ys : List Run) → AreApart ys → AreApart (joined_front x ys)
apart-front x [] apart = (tt, tt)
apart-front x (y ∷ ys) apart = by (joins x y) refl
  where
    whole : (zs : List Run) → joins x y ≡ true → IsApartFrom y zs → IsApartFrom (whole_of x y) zs
    whole [] e h = tt
    whole (z ∷ zs) e h = goes-on-whole x.lcn y.lcn x.len y.len z.lcn e ∙ h

    by : (b : Bool) → joins x y ≡ b → AreApart (cond b (whole_of x y ∷ ys) (x ∷ y ∷ ys))
    by true e = (whole ys e apart.0, apart.1)
    by false e = (e, apart)

pub apart-all : (xs : List Run) → AreApart (joined_all xs)
apart-all [] = tt
apart-all (x ∷ xs) = apart-front x (joined_all xs) (apart-all xs)

-- THE TEXT gets no longer.
abbrev pub run_of : ℕ → Option ℕ → Run
run_of len lcn = record { len = len; lcn = lcn }

no-longer-two : (last n m : ℕ) (a b : Option ℕ) (ys : List Run) → last < 2 ^ 62 → 0 < n → 0 < m → EndsInReach n a → EndsInReach m b
    → AreRuns ys → n + m < 2 ^ 63 → (t : Bool) → goes_on a n b ≡ t
    → text_bytes last (cond t (run_of (n + m) a ∷ ys) (run_of n a ∷ run_of m b ∷ ys)) ≤ text_bytes last (run_of n a ∷ run_of m b ∷ ys)
no-longer-two last n m a b ys low some more ra rb are few false e = omega arith
no-longer-two last n m None None ys low some more ra rb are few true e = omega (arith, fewest-sum n m few)
no-longer-two last n m None (Some q) ys low some more ra rb are few true e = cc
no-longer-two last n m (Some p) None ys low some more ra rb are few true e = cc
no-longer-two last n m (Some p) (Some q) ys low some more ra rb are few true e =
    omega (arith, fewest-sum n m few, shift q p ys (omega (arith, more, rb)) (omega (arith, some, ra)) are)

no-longer-front : (last : ℕ) (x : Run) (ys : List Run) → last < 2 ^ 62 → 0 < x.len → EndsInReach x.len x.lcn → AreRuns ys
    → x.len + length (clusters_of ys) ≤ 2 ^ 62 → text_bytes last (joined_front x ys) ≤ text_bytes last (x ∷ ys)
no-longer-front last x [] low some reach are few = omega arith
no-longer-front last x (y ∷ ys) low some reach are few =
    let count = width-cons y ys in
    no-longer-two last x.len y.len x.lcn y.lcn ys low some are.0 reach are.1 are.2 (omega (arith, few, count)) (joins x y) refl

pub no-longer : (last : ℕ) (xs : List Run) → last < 2 ^ 62 → AreRuns xs → length (clusters_of xs) ≤ 2 ^ 62
    → text_bytes last (joined_all xs) ≤ text_bytes last xs
no-longer last [] low are few = omega arith
no-longer last (x ∷ xs) low are few =
    let count = width-cons x xs in
    let same = ap length (clusters-all xs) in
    let front = no-longer-front last x (joined_all xs) low are.0 are.1 (runs-all xs are.2) (omega (arith, few, count, same)) in
    let rest = no-longer (place_after last x) xs (place-below x.len x.lcn last are.0 are.1 low) are.2 (omega (arith, few, count)) in
    omega (arith, front, rest)
