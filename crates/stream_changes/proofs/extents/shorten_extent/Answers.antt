use Rattle.std.proofs.Common.{◌*◌, ◌≤◌, ◌∙◌, ℕ, List, Some, ap, subst}
use Rattle.ntfs_def.specs.Rounded.{clusters_for}
use Rattle.tree_model.specs.Streams.{resized}
use Rattle.std.proofs.lemmas.Result.{on_ok_weaker}
use Rattle.stream_changes.proofs.ExtentChanged.{extent-can-write, extent-in-use, extent-resized, extent-staged}
use Rattle.stream_changes.proofs.ExtentDone.{cut-both, cut-not, cut-puts, gone-behind}
use Rattle.stream_changes.proofs.extents.shorten_extent.Goals as goal

pub set_attributes-requires-clause-volume : goal.set_attributes-requires-clause-volume
set_attributes-requires-clause-volume g c =
    let f = c.args.number in
    let a = c.args.mft.now in
    let back = c.give_behind.new.mft in
    let m = c.cut_part.new.mft in
    let many = c.clusters_for-clusters.ensures ∙ ap (clusters_for c.args.size) (ap (λ n. 512 * n) c.cluster_sectors.ensures.sectors) in
    extent-in-use g.D.Disk c.args.found.now f c.clusters_for-clusters.result (λ (held : List ℕ). Some (resized c.args.size held)) a back m
    c.give_behind.ensures.device c.cut_part.ensures.disk c.requires.can
    (gone-behind g.D.Disk c.args.found.now f c.clusters_for-clusters.result a back c.args.held.now c.requires.held c.requires.can
    c.in_ok-give_behind.ensures.gives)
    (cut-puts g.D.Disk c.args.found.now f c.clusters_for-clusters.result a back c.args.held.now c.requires.held c.requires.can
    c.in_ok-give_behind.ensures.gives c.give_behind.ensures.device m c.args.size c.in_ok-cut_part.field-0
    c.in_ok-cut_part.ensures.cut c.if-not-branch.false many)

pub set_attributes-requires-clause-can : goal.set_attributes-requires-clause-can
set_attributes-requires-clause-can g c =
    let f = c.args.number in
    let a = c.args.mft.now in
    let back = c.give_behind.new.mft in
    let m = c.cut_part.new.mft in
    let many = c.clusters_for-clusters.ensures ∙ ap (clusters_for c.args.size) (ap (λ n. 512 * n) c.cluster_sectors.ensures.sectors) in
    extent-can-write g.D.Disk c.args.found.now f c.clusters_for-clusters.result (λ (held : List ℕ). Some (resized c.args.size held)) a back
    m c.give_behind.ensures.device c.cut_part.ensures.disk c.requires.can
    (gone-behind g.D.Disk c.args.found.now f c.clusters_for-clusters.result a back c.args.held.now c.requires.held c.requires.can
    c.in_ok-give_behind.ensures.gives)
    (cut-puts g.D.Disk c.args.found.now f c.clusters_for-clusters.result a back c.args.held.now c.requires.held c.requires.can
    c.in_ok-give_behind.ensures.gives c.give_behind.ensures.device m c.args.size c.in_ok-cut_part.field-0
    c.in_ok-cut_part.ensures.cut c.if-not-branch.false many)

pub returns-clause-resized : goal.returns-clause-resized
returns-clause-resized g c =
    let f = c.args.number in
    let a = c.args.mft.now in
    let back = c.give_behind.new.mft in
    let m = c.cut_part.new.mft in
    let many = c.clusters_for-clusters.ensures ∙ ap (clusters_for c.args.size) (ap (λ n. 512 * n) c.cluster_sectors.ensures.sectors) in
    on_ok_weaker c.set_attributes.result (λ sets told can long.
    extent-resized g.D.Disk f can.named.name c.args.size can.named.held
    (gone-behind g.D.Disk c.args.found.now f c.clusters_for-clusters.result a back c.args.held.now c.requires.held (λ t. can)
    c.in_ok-give_behind.ensures.gives told).given a back m c.set_attributes.new.mft c.args.times.now c.args.flags
    c.give_behind.ensures.device c.cut_part.ensures.disk told
    (cut-both g.D.Disk c.args.found.now f c.clusters_for-clusters.result a back c.args.held.now c.requires.held (λ t. can)
    c.in_ok-give_behind.ensures.gives c.give_behind.ensures.device m c.args.size c.in_ok-cut_part.field-0 c.in_ok-cut_part.ensures.cut
    c.if-not-branch.false many told)
    sets) c.set_attributes.ensures.set

pub returns-clause-places : goal.returns-clause-places
returns-clause-places g c =
    let f = c.args.number in
    let a = c.args.mft.now in
    let back = c.give_behind.new.mft in
    let m = c.cut_part.new.mft in
    let many = c.clusters_for-clusters.ensures ∙ ap (clusters_for c.args.size) (ap (λ n. 512 * n) c.cluster_sectors.ensures.sectors) in
    on_ok_weaker c.set_attributes.result (λ sets told can long.
    extent-staged g.D.Disk c.args.found.now f c.clusters_for-clusters.result (λ (held : List ℕ). Some (resized c.args.size held)) a back m
    c.give_behind.ensures.device c.cut_part.ensures.disk c.requires.can
    (gone-behind g.D.Disk c.args.found.now f c.clusters_for-clusters.result a back c.args.held.now c.requires.held c.requires.can
    c.in_ok-give_behind.ensures.gives)
    (cut-puts g.D.Disk c.args.found.now f c.clusters_for-clusters.result a back c.args.held.now c.requires.held c.requires.can
    c.in_ok-give_behind.ensures.gives c.give_behind.ensures.device m c.args.size c.in_ok-cut_part.field-0
    c.in_ok-cut_part.ensures.cut c.if-not-branch.false many)
    c.set_attributes.new.mft c.args.times.now c.args.flags sets c.cut_part.ensures.places c.set_attributes.ensures.places told)
    c.set_attributes.ensures.set

pub give_behind-requires-clause-owners : goal.give_behind-requires-clause-owners
give_behind-requires-clause-owners g c = λ told. (c.requires.can told).named.can.can.apart.owners

-- it can always be cut
pub returns-then-not-branch-clause-resized : goal.returns-then-not-branch-clause-resized
returns-then-not-branch-clause-resized g c = λ told can long.
    absurd (cut-not g.D.Disk c.args.found.now c.args.number c.clusters_for-clusters.result c.args.mft.now c.give_behind.new.mft
    c.args.held.now c.requires.held (λ t. can) c.in_ok-give_behind.ensures.gives c.give_behind.ensures.device c.cut_part.new.mft c.args.size
    c.in_ok-cut_part.field-0 c.in_ok-cut_part.ensures.cut c.if-not-branch.true
    (subst (λ n. n ≤ 8) c.cluster_sectors.ensures.sectors c.cluster_sectors.ensures.few) c.requires.near told long)

pub returns-then-not-branch-clause-places : goal.returns-then-not-branch-clause-places
returns-then-not-branch-clause-places g c = λ told can long.
    absurd (cut-not g.D.Disk c.args.found.now c.args.number c.clusters_for-clusters.result c.args.mft.now c.give_behind.new.mft
    c.args.held.now c.requires.held (λ t. can) c.in_ok-give_behind.ensures.gives c.give_behind.ensures.device c.cut_part.new.mft c.args.size
    c.in_ok-cut_part.field-0 c.in_ok-cut_part.ensures.cut c.if-not-branch.true
    (subst (λ n. n ≤ 8) c.cluster_sectors.ensures.sectors c.cluster_sectors.ensures.few) c.requires.near told long)

pub returns-then-not-branch-clause-tables : goal.returns-then-not-branch-clause-tables
returns-then-not-branch-clause-tables g c = λ told can long.
    absurd (cut-not g.D.Disk c.args.found.now c.args.number c.clusters_for-clusters.result c.args.mft.now c.give_behind.new.mft
    c.args.held.now c.requires.held (λ t. can) c.in_ok-give_behind.ensures.gives c.give_behind.ensures.device c.cut_part.new.mft c.args.size
    c.in_ok-cut_part.field-0 c.in_ok-cut_part.ensures.cut c.if-not-branch.true
    (subst (λ n. n ≤ 8) c.cluster_sectors.ensures.sectors c.cluster_sectors.ensures.few) c.requires.near told long)
