-- HOW OFTEN a run has a cluster.
use Rattle.std.proofs.Common.{◌&&◌, ◌≡◌, ◌⊎◌, ◌+◌, ◌<◌, ◌≤◌, ℕ, Bool, true, List, [], ◌∷◌, length, take, drop, Some, None, get_or}
use Rattle.std.proofs.Common.{sym, ap, inl, inr, ◌∙◌, arith}
use Rattle.std.specs.Prelude.{nat_le, nat_lt}
use Rattle.std.proofs.lemmas.Bool.{and_parts, cases_Bool, cases_lt, le-leb, leb-true, lt-ltb, ltb-true}
use Rattle.std.proofs.lemmas.List.{take-append-drop, take_more}
use Rattle.ntfs_def.specs.declared.run_text.Run.{Run}
use Rattle.list_laws.proofs.FindLaws.{count-no, count-yes}
use Rattle.list_laws.proofs.SameItemsLaws.{count-append}
use Rattle.volume_def.specs.Coverage.{has_cluster, is_in_run, times_covered}

pub run-within : (run : Run) (at c : ℕ) → run.lcn ≡ Some at → 1 ≤ times_covered (run ∷ []) c → (at ≤ c) × (c < at + run.len)
run-within run at c is some = elim (cases_Bool (has_cluster c run)) [
  | inl has ↦
      let its = and_parts (nat_le at c) (nat_lt c (at + run.len)) (ap (λ lcn. is_in_run lcn run.len c) (sym is) ∙ has) in
      (leb-true at c its.0, ltb-true c (at + run.len) its.1)
  | inr not ↦ let none = count-no (has_cluster c) run [] not in absurd (omega (arith, some, none))
]

pub run-beside : (run : Run) (at c : ℕ) → run.lcn ≡ Some at → times_covered (run ∷ []) c ≡ 0 → (c < at) ⊎ (at + run.len ≤ c)
run-beside run at c is none = elim (cases_lt c at) [
  | inl below ↦ inl below
  | inr low ↦ elim (cases_lt c (at + run.len)) [
    | inl high ↦
        let has : has_cluster c run ≡ true =
        ap (λ lcn. is_in_run lcn run.len c) is ∙ both (nat_le at c) (nat_lt c (at + run.len)) (le-leb at c low) (lt-ltb c
        (at + run.len) high) in
        let one = count-yes (has_cluster c) run [] has in
        absurd (omega (arith, one, none))
    | inr above ↦ inr above
  ]
]
  where
    both : (a b : Bool) → a ≡ true → b ≡ true → (a && b) ≡ true
    both a b e f = ap (λ x. x && b) e ∙ f

-- inside it once
pub run-once : (run : Run) (at c : ℕ) → run.lcn ≡ Some at → at ≤ c → c < at + run.len → 1 ≤ times_covered (run ∷ []) c
run-once run at c is low high = elim (cases_lt 0 (times_covered (run ∷ []) c)) [
  | inl some ↦ omega (arith, some)
  | inr none ↦ elim (run-beside run at c is (omega (arith, none))) [
    | inl below ↦ absurd (omega (arith, below, low))
    | inr above ↦ absurd (omega (arith, above, high))
  ]
]

-- a hole has none
pub hole-none : (run : Run) (c : ℕ) → run.lcn ≡ None → times_covered (run ∷ []) c ≡ 0
hole-none run c is = count-no (has_cluster c) run [] (ap (λ lcn. is_in_run lcn run.len c) is)

-- Of the first runs of a list and the next one
pub times-next : (runs : List Run) (k c : ℕ) (run : Run) → k < length runs
    → times_covered (take k runs) c + times_covered (get_or runs k run ∷ []) c ≤ times_covered runs c
times-next runs k c run lt =
    let more = ap (λ xs. times_covered xs c) (take_more runs k run lt) in
    let split = count-append (has_cluster c) (take k runs) (get_or runs k run ∷ []) in
    let all = ap (λ xs. times_covered xs c) (take-append-drop (k + 1) runs) in
    let rest = count-append (has_cluster c) (take (k + 1) runs) (drop (k + 1) runs) in
    omega (arith, more, split, all, rest)
