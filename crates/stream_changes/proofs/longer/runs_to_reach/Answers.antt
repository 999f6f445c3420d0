use Rattle.std.proofs.Common.{◌≡◌, ◌<◌, ◌+◌, ◌^◌, List, Option, ap, subst, arith}
use Rattle.std.specs.Option.{option_to_list}
use Rattle.std.specs.Prelude.{IfNone, slice_get}
use Rattle.ntfs_def.specs.Runs.{total_clusters}
use Rattle.ntfs_def.specs.declared.run_text.Run.{Run}
use Rattle.volume_def.specs.Files.{content_runs}
use Rattle.mft_table.specs.Mft.{mounted_of}
use Rattle.file_record.specs.Held.{parts_held}
use Rattle.file_record.specs.Written.{PartHeld}
use Rattle.data_runs.proofs.PieceLaws.{length-IsRunList, total-is}
use Rattle.stream_changes.specs.Reached.{NeedsFor}
use Rattle.stream_changes.proofs.RunsReached.{too-many}
use Rattle.stream_changes.proofs.longer.runs_to_reach.Goals as goal

pub returns-in_default-2-clause-none : goal.returns-in_default-2-clause-none
returns-in_default-2-clause-none g c = λ its held.
    let runs = c.in-Some.runs in
    let run = c.in-Some-run_to_take.run' in
    let few = length-IsRunList c.runs.inside.runs.items c.runs.invariant in
    too-many (mounted_of g.D.Disk c.args.mft.now).clusters (slice_get (parts_held c.args.held.now) c.args.i) runs its run c.args.clusters
    (subst (λ (o : Option (List Run)). PartHeld c.args.held.now c.args.i (λ part. o ≡ content_runs part.content)) c.in-Some.is
    c.in_ok-runs.ensures) held
    (omega (arith, few, total-is c.runs.inside.runs.items, ap total_clusters c.runs.view_is))
    (subst (λ n. NeedsFor n c.args.clusters run) c.total_clusters.ensures c.in-Some-run_to_take.ensures.needs)
    (subst (λ (o : Option (List Run)). IfNone o (2 ^ 62 < total_clusters runs + total_clusters (option_to_list run))) c.in_default-2.is
    c.in_ok-all.ensures.none)
