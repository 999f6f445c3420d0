-- THE LAWS of the length of texts, by the contracts of the calls that edit run lists.
use Rattle.std.proofs.Common.{◌≡◌, ◌<◌, ◌≤◌, ◌+◌, ◌^◌, ◌⊎◌, ℕ, List, [], ◌++◌, length, map, take, drop, get_or, Option, Some, None}
use Rattle.std.proofs.Common.{sym, ap, subst, inl, inr, ◌∙◌, arith}
use Rattle.std.specs.Prelude.{All, slice_get}
use Rattle.std.specs.Option.{option_map}
use Rattle.std.specs.List.{range_with_len}
use Rattle.std.proofs.lemmas.Bool.{cases_lt}
use Rattle.std.proofs.lemmas.List.{take-append-drop}
use Rattle.std.proofs.lemmas.Option.{slice_get_cases}
use Rattle.ntfs_def.specs.declared.run_text.Run.{Run}
use Rattle.ntfs_def.specs.declared.run_text.Spot.TheVariants.{At, Hole, Outside}
use Rattle.ntfs_def.specs.Runs.{EndsInReach, IsRunList, MeansRuns, clusters_of, run_clusters, spot_in, spot_of, total_clusters}
use Rattle.ntfs_def.proofs.RunLaws.{MeansFrom-IsRunList}
use Rattle.data_runs.specs.Pieces.{AreApart, with_run}
use Rattle.data_runs.specs.Written.{IsWritten}
use Rattle.data_runs.proofs.PieceLaws.{total-is}
use Rattle.data_runs.proofs.WrittenForm.{written_form}
use Rattle.run_texts.specs.Text.{high_lengths, most_longer, text_bytes}
use Rattle.run_texts.proofs.ApartOnce.{apart-once}
use Rattle.run_texts.proofs.JoinedRuns.{apart-all, clusters-all, joined_all, no-longer, runs-all}
use Rattle.run_texts.proofs.PutRuns.{put-with_run, put_in, runs-put}
use Rattle.run_texts.proofs.PutTexts.{put-text}
use Rattle.run_texts.proofs.StoredTexts.{bytes-all, means-length}
use Rattle.run_texts.proofs.TextBytes.{AreRuns, listed-runs, listed-width, text-length}

few-clusters : (runs : List Run) → IsRunList runs → length (clusters_of runs) ≤ 2 ^ 62
few-clusters runs list = omega (arith, listed-width 0 runs (omega arith) list)

pub length-is : (runs : List Run) (text : List ℕ) → IsRunList runs → IsWritten runs text → length text ≡ text_bytes 0 runs
length-is runs text list written = text-length 0 runs text (omega arith) (listed-runs 0 runs list) (few-clusters runs list) written

-- A list of which no two neighbours are one, by any that has its clusters.
shortest : (other new : List Run) → AreRuns other → IsRunList new → AreApart new → clusters_of new ≡ clusters_of other
    → text_bytes 0 new ≤ text_bytes 0 other
shortest other new are list apart same =
    let few = few-clusters new list in
    let long = ap length same in
    let one : new ≡ joined_all other =
    apart-once new (joined_all other) (listed-runs 0 new list) (runs-all other are) apart (apart-all other)
    (same ∙ sym (clusters-all other)) in
    let fits = no-longer 0 other (omega arith) are (omega (arith, few, long)) in
    subst (λ runs. text_bytes 0 runs ≤ text_bytes 0 other) (sym one) fits

pub joined-shorter : (old new : List Run) → IsRunList old → IsRunList new → AreApart new → clusters_of new ≡ clusters_of old
    → (was now : List ℕ) → IsWritten old was → IsWritten new now → length now ≤ length was
joined-shorter old new list list_new apart same was now written written_new =
    let a = length-is old was list written in
    let b = length-is new now list_new written_new in
    omega (arith, a, b, shortest old new (listed-runs 0 old list) list_new apart same)

-- a cluster that lies in a hole
hole-there : (old : List Run) (at : ℕ) → spot_of old at ≡ Hole → get_or (clusters_of old) at None ≡ None
hole-there old at e = elim (slice_get_cases (clusters_of old) at).1 [
  | inl there ↦ by there.0 there.2 there.3
  | inr none ↦ let never : Outside ≡ Hole = sym (ap spot_in none.1) ∙ e in cc
]
  where
    by : (x : Option ℕ) → slice_get (clusters_of old) at ≡ Some x → get_or (clusters_of old) at x ≡ x
        → get_or (clusters_of old) at None ≡ None
    by None s g = g
    by (Some c) s g = let never : At c ≡ Hole = sym (ap spot_in s) ∙ e in cc

-- a run without a cluster changes nothing
with-none : (clusters : List (Option ℕ)) (at : ℕ) (run : Run) → run.len ≡ 0 → with_run clusters at run ≡ clusters
unfolding with_run
with-none clusters at run e =
    let none : run_clusters run ≡ [] =
    ap (λ n. map (λ k. option_map (λ place. place + k) run.lcn) (range_with_len 0 n)) e in
    let stays : at + run.len ≡ at = omega (arith, e) in
    ap (λ l. take at clusters ++ (l ++ drop (at + run.len) clusters)) none
    ∙ ap (λ n. take at clusters ++ drop n clusters) stays ∙ take-append-drop at clusters

pub put-longer : (old new : List Run) (at : ℕ) (run : Run) → IsRunList old → IsRunList new → AreApart new
    → at + run.len ≤ total_clusters old → EndsInReach run.len run.lcn → (run.lcn ≡ None) ⊎ (spot_of old at ≡ Hole)
    → clusters_of new ≡ with_run (clusters_of old) at run → (was now : List ℕ) → IsWritten old was → IsWritten new now
    → length now ≤ length was + most_longer
put-longer old new at run list list_new apart inside reach hole same was now written written_new = by (cases_lt 0 run.len)
  where
    its : (run.lcn ≡ None) ⊎ (spot_of old at ≡ Hole) → (run.lcn ≡ None) ⊎ (get_or (clusters_of old) at None ≡ None)
    its (inl e) = inl e
    its (inr e) = inr (hole-there old at e)

    by : (0 < run.len) ⊎ (run.len ≤ 0) → length now ≤ length was + most_longer
    by (inr none) =
        let empty : run.len ≡ 0 = omega (arith, none) in
        let kept = same ∙ with-none (clusters_of old) at run empty in
        omega (arith, joined-shorter old new list list_new apart kept was now written written_new)
    by (inl some) =
        let here : at < length (clusters_of old) = omega (arith, total-is old, inside, some) in
        let are = listed-runs 0 old list in
        let longer = put-text 0 old at run (omega arith) are (some, reach, tt) (few-clusters old list) here (its hole) in
        let joined = shortest (put_in old at run) new (runs-put old at run are some reach) list_new apart
        (same ∙ sym (put-with_run old at run here)) in
        let a = length-is old was list written in
        let b = length-is new now list_new written_new in
        omega (arith, a, b, longer, joined)

-- WHAT IS STORED, in whichever numbers, by the written form of its runs
pub stored-length : (runs : List Run) (text written : List ℕ) → All (λ byte. byte < 256) text → MeansRuns text runs
    → IsWritten runs written → length written ≤ length text + high_lengths text runs
stored-length runs text written each means is =
    let e = length-is runs written (MeansFrom-IsRunList text 0 0 runs means) is in
    omega (arith, e, means-length 0 0 runs text (bytes-all text each) (omega arith) means)

pub stored-joined : (old new : List Run) (text now : List ℕ) → All (λ byte. byte < 256) text → MeansRuns text old → IsRunList new
    → AreApart new → clusters_of new ≡ clusters_of old → IsWritten new now → length now ≤ length text + high_lengths text old
stored-joined old new text now each means list_new apart same written_new =
    let list = MeansFrom-IsRunList text 0 0 old means in
    let (was, written) = written_form 0 0 old (omega arith) list in
    omega (
      arith,
      stored-length old text was each means written,
      joined-shorter old new list list_new apart same was now written written_new,
    )

pub stored-longer : (old new : List Run) (at : ℕ) (run : Run) (text now : List ℕ) → All (λ byte. byte < 256) text → MeansRuns text old
    → IsRunList new → AreApart new → at + run.len ≤ total_clusters old → EndsInReach run.len run.lcn
    → (run.lcn ≡ None) ⊎ (spot_of old at ≡ Hole) → clusters_of new ≡ with_run (clusters_of old) at run → IsWritten new now
    → length now ≤ length text + high_lengths text old + most_longer
stored-longer old new at run text now each means list_new apart inside reach hole same written_new =
    let list = MeansFrom-IsRunList text 0 0 old means in
    let (was, written) = written_form 0 0 old (omega arith) list in
    omega (
      arith,
      stored-length old text was each means written,
      put-longer old new at run list list_new apart inside reach hole same was now written written_new,
    )
