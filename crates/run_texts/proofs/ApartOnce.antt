-- ONE LIST has these clusters of which no two neighbours are one.
use Rattle.std.proofs.Common.{◌≡◌, ◌<◌, ◌≤◌, ◌+◌, ℕ, true, false, List, [], ◌∷◌, length, drop, get_or, Option, Some, None}
use Rattle.std.proofs.Common.{◌-◌, ◌⊎◌, refl, sym, ap, inl, inr, ◌∙◌, arith}
use Rattle.std.specs.Option.{option_map}
use Rattle.std.proofs.lemmas.Bool.{cases_lt, eq-eqb}
use Rattle.std.proofs.lemmas.List.{drop_at, get_or-append_right, get_or_append_left}
use Rattle.ntfs_def.specs.declared.run_text.Run.{Run}
use Rattle.ntfs_def.specs.Runs.{clusters_of, run_clusters}
use Rattle.data_runs.specs.Pieces.{AreApart, goes_on}
use Rattle.data_runs.proofs.PieceLaws.{get_or-run_clusters, length-run_clusters}
use Rattle.run_texts.proofs.TextBytes.{AreRuns, width-cons, width-none}

-- cluster n of the first run, and the first one behind it
pub first-at : (x : Run) (xs : List Run) (n : ℕ) → n < x.len
    → get_or (clusters_of (x ∷ xs)) n None ≡ option_map (λ place. place + n) x.lcn
unfolding clusters_of
first-at x xs n h =
    get_or_append_left (run_clusters x) (clusters_of xs) None n (omega (arith, length-run_clusters x)) ∙ get_or-run_clusters x n None h

behind-first : (x z : Run) (zs : List Run) → 0 < z.len
    → get_or (clusters_of (x ∷ z ∷ zs)) x.len None ≡ option_map (λ place. place + 0) z.lcn
unfolding clusters_of
behind-first x z zs some =
    let start : x.len - x.len ≡ 0 = omega arith in
    get_or-append_right (run_clusters x) (clusters_of (z ∷ zs)) x.len x.len None (length-run_clusters x) (omega arith)
    ∙ ap (λ n. get_or (clusters_of (z ∷ zs)) n None) start ∙ first-at z zs 0 some

-- runs that begin at one cluster
same-place : (a b : Option ℕ) → option_map (λ place. place + 0) a ≡ option_map (λ place. place + 0) b → a ≡ b
same-place None None e = refl
same-place None (Some q) e = cc
same-place (Some p) None e = cc
same-place (Some p) (Some q) e = let same : p + 0 ≡ q + 0 = cc in ap Some (omega (arith, same))

go-on : (a b : Option ℕ) (n : ℕ) → option_map (λ place. place + 0) b ≡ option_map (λ place. place + n) a → goes_on a n b ≡ true
go-on None None n e = refl
go-on None (Some q) n e = cc
go-on (Some p) None n e = cc
go-on (Some p) (Some q) n e = let same : q + 0 ≡ p + n = cc in eq-eqb (p + n) q (omega (arith, same))

-- a run ends no sooner than another that begins with it
no-sooner : (x y : Run) (xs ys : List Run) → AreRuns xs → AreApart (x ∷ xs) → x.lcn ≡ y.lcn
    → clusters_of (x ∷ xs) ≡ clusters_of (y ∷ ys) → x.len < y.len → ⊥
no-sooner x y [] ys are apart same e less =
    let long = ap length e in
    omega (arith, long, less, width-cons x [], width-none, width-cons y ys)
no-sooner x y (z ∷ zs) ys are apart same e less =
    let here = sym (behind-first x z zs are.0) ∙ ap (λ l. get_or l x.len None) e ∙ first-at y ys x.len less
    ∙ ap (option_map (λ place. place + x.len)) (sym same) in
    let joined = go-on x.lcn z.lcn x.len here in
    let never : false ≡ true = sym apart.0 ∙ joined in
    cc

behind : (x : Run) (xs : List Run) → drop x.len (clusters_of (x ∷ xs)) ≡ clusters_of xs
unfolding clusters_of
behind x xs = drop_at (run_clusters x) (clusters_of xs) x.len (length-run_clusters x)

pub apart-once : (xs ys : List Run) → AreRuns xs → AreRuns ys → AreApart xs → AreApart ys → clusters_of xs ≡ clusters_of ys → xs ≡ ys
apart-once [] [] ax ay px py e = refl
apart-once [] (y ∷ ys) ax ay px py e =
    let long = ap length e in
    let some = ay.0 in
    absurd (omega (arith, long, some, width-none, width-cons y ys))
apart-once (x ∷ xs) [] ax ay px py e =
    let long = ap length e in
    let some = ax.0 in
    absurd (omega (arith, long, some, width-none, width-cons x xs))
apart-once (x ∷ xs) (y ∷ ys) ax ay px py e =
    let place : x.lcn ≡ y.lcn =
    same-place x.lcn y.lcn (sym (first-at x xs 0 ax.0) ∙ ap (λ l. get_or l 0 None) e ∙ first-at y ys 0 ay.0) in
    let len : x.len ≡ y.len = same-length place (cases_lt x.len y.len) (cases_lt y.len x.len) in
    let run : x ≡ y = λ i. record { len = len i; lcn = place i } in
    let rest : clusters_of xs ≡ clusters_of ys =
    sym (behind x xs) ∙ ap (λ (r : Run). drop r.len (clusters_of (x ∷ xs))) run ∙ ap (drop y.len) e ∙ behind y ys in
    ap (λ r. r ∷ xs) run ∙ ap (λ l. y ∷ l) (apart-once xs ys ax.2 ay.2 px.1 py.1 rest)
  where
    same-length : x.lcn ≡ y.lcn → (x.len < y.len) ⊎ (y.len ≤ x.len) → (y.len < x.len) ⊎ (x.len ≤ y.len) → x.len ≡ y.len
    same-length place (inl less) other = absurd (no-sooner x y xs ys ax.2 px place e less)
    same-length place (inr le) (inl less) = absurd (no-sooner y x ys xs ay.2 py (sym place) (sym e) less)
    same-length place (inr le) (inr ge) = omega arith
