use Rattle.std.proofs.Common.{sym, ap, ◌∙◌}
use Rattle.std.specs.Prelude.{sum_by}
use Rattle.list_laws.proofs.OptionLaws.{some_same}
use Rattle.edit_def.specs.Purses.{run_size}
use Rattle.ntfs_def.proofs.RunsInLaws.{runs_in-means}
use Rattle.extent_edits.proofs.attribute.stored_in.Goals as goal

pub unreachable-requires : goal.unreachable-requires
unreachable-requires c =
    let (runs, means) = c.requires in
    let some = runs_in-means c.args.text.now runs means in
    let found = c.in_ok-runs.ensures in
    let none = c.in-None.is in
    cc (some, found, none)

pub returns : goal.returns
returns c = λ runs means.
    let some = runs_in-means c.args.text.now runs means in
    let same = some_same (sym c.in-Some.is ∙ c.in_ok-runs.ensures ∙ some) in
    c.stored_clusters.ensures.sum ∙ ap (sum_by run_size) (c.runs-in-Some.ensures.runs ∙ same)
