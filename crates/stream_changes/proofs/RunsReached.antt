-- THE RUN THAT IS TAKEN: where it lies, and where the runs of a stream are too many with it.
use Rattle.std.proofs.Common.{◌≡◌, ◌+◌, ◌-◌, ◌*◌, ◌^◌, ◌<◌, ◌≤◌, ℕ, Bool, List, [], Option, None, Some, false, length, refl}
use Rattle.std.proofs.Common.{inr, ◌∙◌, arith}
use Rattle.std.specs.Option.{option_to_list}
use Rattle.std.specs.Prelude.{IsSomeAnd, slice_get}
use Rattle.std.proofs.lemmas.List.Sums.{sum_by-cons}
use Rattle.std.proofs.lemmas.Option.{slice_get_within}
use Rattle.list_laws.proofs.OptionLaws.{some_same}
use Rattle.ntfs_def.specs.Runs.{total_clusters}
use Rattle.ntfs_def.specs.declared.run_text.Run.{Run}
use Rattle.volume_def.specs.Files.{Part, content_runs}
use Rattle.stream_changes.specs.Reached.{CannotReach, NeedsFor}
use Rattle.stream_changes.proofs.ReachLaws.{le-mul}

same-runs : (o : Option Part) (runs its : List Run) → IsSomeAnd o (λ part. Some runs ≡ content_runs part.content)
    → IsSomeAnd o (λ part. content_runs part.content ≡ Some its) → runs ≡ its
same-runs None runs its a b = absurd a
same-runs (Some part) runs its a b = some_same (a ∙ b)

pub too-many : (flags : List Bool) (o : Option Part) (runs its : List Run) (run : Option Run) (clusters : ℕ)
    → IsSomeAnd o (λ part. Some runs ≡ content_runs part.content) → IsSomeAnd o (λ part. content_runs part.content ≡ Some its)
    → total_clusters runs ≤ 2 ^ 62 → NeedsFor (total_clusters runs) clusters run
    → 2 ^ 62 < total_clusters runs + total_clusters (option_to_list run) → CannotReach flags its clusters
too-many flags o runs its None clusters are held few needs many =
    let none : total_clusters [] ≡ 0 = refl in absurd (omega (arith, none, few, many))
too-many flags o runs its (Some run) clusters are held few needs many =
    let one = sum_by-cons (λ (r : Run). r.len) run [] in
    inr (omega (arith, one, many, needs.len, needs.new.some))

-- A FREE RUN, by the flags of the clusters of a disk, ends within reach.
pub within-reach : (flags : List Bool) (clusters sectors size at count : ℕ) → length flags ≡ clusters → clusters * sectors ≤ size
    → 0 < sectors → size < 2 ^ 55 → 0 < count → ((k : ℕ) → at ≤ k → k < at + count → slice_get flags k ≡ Some false) → at + count ≤ 2 ^ 62
within-reach flags clusters sectors size at count many fits one few some free =
    let last = slice_get_within flags (at + count - 1) false (free (at + count - 1) (omega (arith, some)) (omega (arith, some))) in
    let most = le-mul clusters sectors one in
    omega (arith, last, most, many, fits, few)
