use Rattle.std.proofs.Common.{ℕ, List, refl, sym, subst, ◌∙◌}
use Rattle.ntfs_def.specs.declared.sizes.Sizes.{Sizes}
use Rattle.ntfs_def.specs.Runs.{MeansRuns}
use Rattle.ntfs_def.proofs.RunsInLaws.{means-runs_in, runs_in-means}
use Rattle.attr_view.specs.View.{attribute_of, viewed_block}
use Rattle.mft_table.proofs.TableParts.{Fits, IsRead, RecordTells-made, RecordTells-means, RecordTells-parts}
use Rattle.mft_table.proofs.find.table.read_table.Goals as goal

pub returns-in_default-2-clause-none : goal.returns-in_default-2-clause-none
returns-in_default-2-clause-none c layout tells =
    let text : List ℕ = c.in-Some-runs.text.now in
    let means : MeansRuns text layout.runs =
    RecordTells-means c.args.geometry.now _ _ text layout c.in-Some.ensures.some c.in-Some-runs.ensures tells in
    let some = runs_in-means text layout.runs means in
    let same = c.in_ok-runs.ensures in
    let none = c.in_default-2.is in
    cc

pub returns-then-not-is_table-clause-none : goal.returns-then-not-is_table-clause-none
returns-then-not-is_table-clause-none c layout tells =
    let means : MeansRuns c.in-Some-runs.text.now c.in-Some-2.runs =
    means-runs_in c.in-Some-runs.text.now c.in-Some-2.runs (sym c.in_ok-runs.ensures ∙ c.in-Some-2.is) in
    let sizes : Sizes = c.in-Some-sizes.sizes in
    let text : List ℕ = c.in-Some-runs.text.now in
    let read : IsRead (viewed_block c.args.view.now) (attribute_of c.in-Some.stream) sizes text c.in-Some-2.runs =
    record { holds = c.in-Some.ensures.some; sizes_read = c.in-Some-sizes.ensures; text_read = c.in-Some-runs.ensures; means = means } in
    let parts : Fits c.args.geometry.now.mft c.args.geometry.now.cluster c.args.geometry.now.clusters c.in-Some-2.runs sizes =
    RecordTells-parts c.args.geometry.now _ _ _ sizes text c.in-Some-2.runs layout c.requires read tells in
    let told = c.is_table.ensures.1
    (subst (λ (n : ℕ). Fits c.args.geometry.now.mft n c.args.geometry.now.clusters c.in-Some-2.runs sizes) (sym c.from.ensures) parts) in
    let refused = c.if-not-is_table.true in
    cc

pub returns-clause-some : goal.returns-clause-some
returns-clause-some c =
    let means : MeansRuns c.in-Some-runs.text.now c.in-Some-2.runs =
    means-runs_in c.in-Some-runs.text.now c.in-Some-2.runs (sym c.in_ok-runs.ensures ∙ c.in-Some-2.is) in
    let sizes : Sizes = c.in-Some-sizes.sizes in
    let text : List ℕ = c.in-Some-runs.text.now in
    let read : IsRead (viewed_block c.args.view.now) (attribute_of c.in-Some.stream) sizes text c.in-Some-2.runs =
    record { holds = c.in-Some.ensures.some; sizes_read = c.in-Some-sizes.ensures; text_read = c.in-Some-runs.ensures; means = means } in
    let fits = subst (λ (n : ℕ). Fits c.args.geometry.now.mft n c.args.geometry.now.clusters c.in-Some-2.runs sizes) c.from.ensures
    (c.is_table.ensures.0 c.if-not-is_table.false) in
    (refl, RecordTells-made c.args.geometry.now _ _ _ sizes text c.in-Some-2.runs c.requires read fits)
