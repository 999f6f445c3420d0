-- OWNERS AND BITS after an edit of one record.
use Rattle.std.proofs.Common.{◌≡◌, ◌≢◌, ◌<◌, ◌≤◌, ◌+◌, ◌⊎◌, ℕ, true, List, [], length, Some, sym, ap, subst, inl, inr, ◌∙◌, arith}
use Rattle.std.specs.Prelude.{nat_le, slice_get}
use Rattle.std.specs.List.{flat_map, range_with_len}
use Rattle.std.proofs.lemmas.Bool.{cases_eq, cases_lt, le-leb}
use Rattle.volume_def.specs.Coverage.{has_cluster, times_covered}
use Rattle.volume_def.specs.Edits.{ChangesAt, EditsAt}
use Rattle.ntfs_def.specs.declared.kinds.TheConstants.{DATA}
use Rattle.std.specs.Prelude.{filter}
use Rattle.volume_def.specs.Files.{Part, Records, file_of, is_of, joined_runs, part_runs, records_of}
use Rattle.volume_def.specs.OwnersClause.{MeetsOwners, all_runs, record_runs, times_owned}
use Rattle.list_laws.specs.Replaces.{Replaces}
use Rattle.volume_def.specs.View.{VolumeView}
use Rattle.volume_def.proofs.RecordLaws.{parts-other}
use Rattle.list_laws.proofs.ReplacesLaws.{Replaces-count, Replaces-flat_map, Replaces-range, Replaces-within}
use Rattle.edit_def.specs.Marks.{AreRight, Marks}
use Rattle.record_edits.specs.Owners.{FollowsRuns, NamesRightly, times_in}
use Rattle.record_edits.proofs.RoomEdits.{used-kept}

pub all_runs-Replaces : (old new : Records) (n : ℕ) → ChangesAt old new n → n < old.count
    → Replaces (all_runs old) (all_runs new) (record_runs (old.record_at n)) (record_runs (new.record_at n))
unfolding all_runs
all_runs-Replaces old new n c h =
    subst (λ count. Replaces (flat_map (λ m. record_runs (old.record_at m)) (range_with_len 0 old.count)) (flat_map (λ m. record_runs
    (new.record_at m)) (range_with_len 0 count)) (record_runs (old.record_at n)) (record_runs (new.record_at n))) (sym c.count)
    (Replaces-range (λ m. record_runs (old.record_at m)) (λ m. record_runs (new.record_at m)) 0 old.count n (omega arith) (omega arith)
    (λ m ne. ap record_runs (c.others m ne)))

pub all_runs-edit : (old new : Records) (n : ℕ) (was now : List Part) → EditsAt old new n was now
    → Replaces (all_runs old) (all_runs new) (joined_runs was) (joined_runs now)
all_runs-edit old new n was now e =
    let a : record_runs (old.record_at n) ≡ joined_runs e.was_record.parts = ap record_runs e.was_at in
    let b : record_runs (new.record_at n) ≡ joined_runs e.now_record.parts = ap record_runs e.now_at in
    Replaces-within _ _ (joined_runs e.was_record.parts) (joined_runs e.now_record.parts) _ _ (rw (← a, ← b)
    (all_runs-Replaces old new n e.changes e.inside)) (Replaces-flat_map part_runs _ _ _ _ e.edit)

-- HOW OFTEN a cluster is owned
pub times-edit : (old new : Records) (n : ℕ) (was now : List Part) (c : ℕ) → EditsAt old new n was now
    → times_owned new c + times_in was c ≡ times_owned old c + times_in now c
unfolding times_owned
times-edit old new n was now c e = Replaces-count (has_cluster c) (all_runs old) (all_runs new) (joined_runs was) (joined_runs now)
    (all_runs-edit old new n was now e)

-- THE CLAUSE ON OWNERS
pub owners-edit : (old new : Records) (clusters n : ℕ) (was now : List Part) → (e : EditsAt old new n was now)
    → NamesRightly old clusters was now
    → file_of n e.was_record ≢ 7 → ((c : ℕ) → MeetsOwners old clusters c) → (c : ℕ) → MeetsOwners new clusters c
owners-edit old new clusters n was now e names other meets c =
    let times = times-edit old new n was now c e in
    let rise : (times_in was c ≡ 0) ⊎ (1 ≤ times_in was c) = elim (cases_eq (times_in was c) 0) [
      | inl z ↦ inl z
      | inr ne ↦ inr
          (omega arith)
    ] in
    record {
      boot = λ zero. subst (λ all. 1 ≤ times_covered (joined_runs (filter (is_of DATA []) all)) 0) (sym
          (parts-other old new n 7 was now e other)) ((meets c).boot zero);
      inside = λ past. elim (cases_eq (times_in now c) 0) as (λ _. times_owned new c ≡ 0) [
        | inl none ↦ omega (arith, times, none, (meets c).inside past)
        | inr some ↦ elim rise as (λ _. times_owned new c ≡ 0) [
          | inl z ↦ absurd (omega (arith, past, names.on_volume c (omega arith) z))
          | inr more ↦ absurd (omega (arith, times, (meets c).inside past, names.held c, more))
        ]
      ];
      once = elim rise as (λ _. times_owned new c ≤ 1) [
        | inl z ↦ elim (cases_eq (times_in now c) 0) as (λ _. times_owned new c ≤ 1) [
          | inl none ↦ omega (arith, times, none, z, (meets c).once)
          | inr some ↦ omega (arith, times, z, names.free c (omega arith) z, names.apart c)
        ]
        | inr more ↦ omega (arith, times, more, (meets c).once, names.apart c, names.held c)
      ];
    }

-- THE BITS IN MEMORY FOLLOW
flag-for : (t : ℕ) → 1 ≤ t → nat_le 1 t ≡ true
flag-for t h = le-leb 1 t h

pub marks-edit : (old new : VolumeView) (n : ℕ) (was now : List Part) (before after : Marks) → new.layout ≡ old.layout
    → EditsAt (records_of old) (records_of new) n was now → ((c : ℕ) → times_owned (records_of old) c ≤ 1)
    → FollowsRuns before.clusters after.clusters was now → after.records ≡ before.records → AreRight old before → AreRight new after
marks-edit old new n was now before after layout e once follows rows right =
    let clusters = ap (λ l. l.clusters) layout in
    let count = ap (λ l. l.count) layout in
    record {
      count = follows.count ∙ right.count ∙ sym clusters;
      taken = λ c h.
          let times = times-edit (records_of old) (records_of new) n was now c e in
          let before_is = right.taken c (omega (arith, clusters)) in
          elim (cases_lt (times_in was c) (times_in now c)) as (λ _. slice_get after.clusters c ≡ Some (nat_le 1 (times_owned
          (records_of new) c))) [
            | inl more ↦ follows.taken c (omega (arith, right.count, clusters)) more ∙ ap Some (sym (flag-for _ (omega (arith, times))))
            | inr no_more ↦ elim (cases_lt (times_in now c) (times_in was c)) as (λ _. slice_get after.clusters c ≡ Some (nat_le 1
                (times_owned (records_of new) c))) [
                  | inl fewer ↦
                      let none : times_owned (records_of new) c ≡ 0 = omega (arith, times, once c) in
                      follows.given c (omega (arith, right.count, clusters)) fewer ∙ ap (λ t. Some (nat_le 1 t)) (sym none)
                  | inr same ↦
                      let equal : times_owned (records_of new) c ≡ times_owned (records_of old) c = omega (arith, times) in
                      follows.kept c (omega arith) ∙ before_is ∙ ap (λ t. Some (nat_le 1 t)) (sym equal)
                ]
          ];
      rows = ap length rows ∙ right.rows ∙ sym count;
      used = λ m low h. ap (λ flags. slice_get flags m) rows ∙ right.used m low (omega (arith, count)) ∙ ap Some (sym (used-kept
          (records_of old) (records_of new) n was now e m));
    }
