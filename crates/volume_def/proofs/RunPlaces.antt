-- Two clusters of a stream lie at two places, where no cluster is covered twice.
use Rattle.std.proofs.Common.{◌≡◌, ℕ, ◌+◌, ◌-◌, ◌<◌, ◌≤◌, true, cond, List, [], ◌∷◌, Option, Some, None, inl, inr, refl, sym, ◌∙◌, arith}
use Rattle.std.specs.Option.{option_map}
use Rattle.std.proofs.lemmas.Bool.{cases_lt, le-leb, lt-ltb}
use Rattle.std.proofs.lemmas.List.Sums.{sum_by-cons}
use Rattle.ntfs_def.specs.declared.run_text.Run.{Run}
use Rattle.ntfs_def.specs.declared.run_text.Spot.TheVariants.{At}
use Rattle.ntfs_def.specs.Runs.{spot_in, spot_of}
use Rattle.ntfs_def.proofs.SpotLaws.{spot_of-first, spot_of-none, spot_of-past}
use Rattle.volume_def.specs.Coverage.{AreApart, has_cluster, is_in_run, times_covered}

times_in-cons : (run : Run) (runs : List Run) (c : ℕ) → times_covered (run ∷ runs) c ≡ cond (has_cluster c run) 1 0 + times_covered runs c
times_in-cons run runs c = sum_by-cons (λ r. cond (has_cluster c r) 1 0) run runs

-- the run that holds a cluster of the stream covers it
in_run : (len : ℕ) (lcn : Option ℕ) (vcn c : ℕ) → vcn < len → spot_in (Some (option_map (λ l. l + vcn) lcn)) ≡ At c
    → is_in_run lcn len c ≡ true
in_run len None vcn c h e = cc
in_run len (Some l) vcn c h e =
    let at : l + vcn ≡ c = cc in
    rw (le-leb l c (omega arith), lt-ltb c (l + len) (omega arith)) refl

-- a cluster of a stream is covered
pub times_in-spot_of : (runs : List Run) (vcn c : ℕ) → spot_of runs vcn ≡ At c → 1 ≤ times_covered runs c
times_in-spot_of [] vcn c e = let none = spot_of-none vcn in cc
times_in-spot_of (run ∷ runs) vcn c e = elim (cases_lt vcn run.len) [
  | inl lt ↦
      let t : has_cluster c run ≡ true = in_run run.len run.lcn vcn c lt (sym (spot_of-first run runs vcn lt) ∙ e) in
      rw (times_in-cons run runs c, t) (omega arith)
  | inr ge ↦
      let t = times_in-spot_of runs (vcn - run.len) c (sym (spot_of-past run runs vcn ge) ∙ e) in
      rw (times_in-cons run runs c) (omega arith)
]

same_place : (lcn : Option ℕ) (a b c : ℕ) → spot_in (Some (option_map (λ l. l + a) lcn)) ≡ At c
    → spot_in (Some (option_map (λ l. l + b) lcn)) ≡ At c → a ≡ b
same_place None a b c e f = cc
same_place (Some l) a b c e f = let x : l + a ≡ c = cc in let y : l + b ≡ c = cc in omega arith

rest_apart : (run : Run) (runs : List Run) → AreApart (run ∷ runs) → AreApart runs
rest_apart run runs apart c = let e = times_in-cons run runs c in let h = apart c in omega arith

-- a cluster in the first run and in the others is covered twice
not_both : (run : Run) (runs : List Run) (a b c : ℕ) → AreApart (run ∷ runs) → a < run.len → run.len ≤ b
    → spot_of (run ∷ runs) a ≡ At c → spot_of (run ∷ runs) b ≡ At c → a ≡ b
not_both run runs a b c apart lt ge e f =
    let t : has_cluster c run ≡ true = in_run run.len run.lcn a c lt (sym (spot_of-first run runs a lt) ∙ e) in
    let u = times_in-spot_of runs (b - run.len) c (sym (spot_of-past run runs b ge) ∙ f) in
    let h : cond (has_cluster c run) 1 0 + times_covered runs c ≤ 1 = rw (times_in-cons run runs c) at (apart c) in
    let k : 1 + times_covered runs c ≤ 1 = rw t at h in
    absurd (omega arith)

pub spot_of-once : (runs : List Run) (a b c : ℕ) → AreApart runs → spot_of runs a ≡ At c → spot_of runs b ≡ At c → a ≡ b
spot_of-once [] a b c apart e f = let none = spot_of-none a in cc
spot_of-once (run ∷ runs) a b c apart e f = elim (cases_lt a run.len) [
  | inl la ↦ elim (cases_lt b run.len) [
    | inl lb ↦ same_place run.lcn a b c (sym (spot_of-first run runs a la) ∙ e) (sym (spot_of-first run runs b lb) ∙ f)
    | inr gb ↦ not_both run runs a b c apart la gb e f
  ]
  | inr ga ↦ elim (cases_lt b run.len) [
    | inl lb ↦ sym (not_both run runs b a c apart lb ga f e)
    | inr gb ↦
        let x = spot_of-once runs (a - run.len) (b - run.len) c (rest_apart run runs apart)
        (sym (spot_of-past run runs a ga) ∙ e) (sym (spot_of-past run runs b gb) ∙ f) in
        omega arith
  ]
]
