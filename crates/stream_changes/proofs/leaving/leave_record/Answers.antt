use Rattle.std.proofs.Common.{◌*◌, ◌<◌, ◌∙◌, [], Option, ap, subst, sym, arith}
use Rattle.std.specs.Prelude.{IfNone, IfSome, List}
use Rattle.std.proofs.lemmas.List.Sums.{sum_by-cons}
use Rattle.ntfs_def.specs.Rounded.{clusters_for}
use Rattle.ntfs_def.specs.declared.run_text.Run.{Run}
use Rattle.mft_table.specs.Mft.{mounted_of, view}
use Rattle.edit_def.specs.Purses.{run_size}
use Rattle.stored_bits.proofs.DeviceKept.{device-same}
use Rattle.stream_changes.specs.Reached.{HasNoRun}
use Rattle.stream_changes.proofs.ReachLaws.{few-clusters}
use Rattle.stream_changes.specs.Moving.{IsFreeRun}
use Rattle.stream_changes.proofs.LeftRecord.{some-clusters, told-clusters}
use Rattle.stream_changes.proofs.Moved.{leave-can-write, leave-free, leave-in-use, leave-never, leave-put, leave-short, leave-staged}
use Rattle.stream_changes.proofs.leaving.leave_record.Goals as goal

pub returns-in_err-run-clause-device : goal.returns-in_err-run-clause-device
returns-in_err-run-clause-device g c = device-same g.D.Disk c.args.mft.now

pub returns-in_default-clause-device : goal.returns-in_default-clause-device
returns-in_default-clause-device g c = device-same g.D.Disk c.args.mft.now

pub run_to_take-requires : goal.run_to_take-requires
run_to_take-requires g c =
    let size = 512 * c.cluster_sectors.result in
    let positive = c.cluster_sectors.ensures.some in
    subst (λ n. 0 < n) (sym c.clusters_for-count.ensures)
    (some-clusters c.args.real size (omega (arith, c.requires.some, c.requires.more)) (omega (arith, positive)))

-- as many clusters as it takes have few enough bytes
pub move_part-requires-clause-told : goal.move_part-requires-clause-told
move_part-requires-clause-told g c =
    let a = c.args.mft.now in
    let size = 512 * c.cluster_sectors.result in
    let count = c.clusters_for-count.result in
    let positive = c.cluster_sectors.ensures.some in
    let holds = subst (λ (o : Option (Run × List Run)). IfSome o (λ with. IsFreeRun (mounted_of g.D.Disk a).clusters count with.0 with.1))
    c.in-Some.is c.in_ok-run.ensures.some in
    let few = few-clusters c.args.real size (omega (arith, positive)) in
    let filled = c.write_runs.new.mft in
    told-clusters c.args.real (view g.D.Disk filled).layout.cluster_sectors c.in-Some.run'.len c.requires.near filled.stands.table.some
    filled.stands.table.small (omega (arith, holds.is.len, c.clusters_for-count.ensures, few))

-- the volume between, as it is where its record was edited
pub set_attributes-requires-clause-volume : goal.set_attributes-requires-clause-volume
set_attributes-requires-clause-volume g c =
    let a = c.args.mft.now in
    let real = c.args.real in
    let count = c.clusters_for-count.result in
    let many = c.clusters_for-count.ensures ∙ ap (clusters_for real) (ap (λ n. 512 * n) c.cluster_sectors.ensures.sectors) in
    let holds = subst (λ (o : Option (Run × List Run)). IfSome o (λ with. IsFreeRun (mounted_of g.D.Disk a).clusters count with.0 with.1))
    c.in-Some.is c.in_ok-run.ensures.some in
    leave-in-use g.D.Disk c.args.found.now c.args.number c.args.put.now real count c.in-Some.run' c.in-Some.runs a c.take_run.new.mft
    c.write_runs.new.mft c.requires.volume c.requires.some c.requires.more c.requires.near c.requires.can c.requires.last many holds
    c.in_ok-take_run.ensures.taken c.in_ok-write_runs.ensures.written c.move_part.new.mft c.write_runs.ensures.disk
    c.move_part.ensures.disk (λ t placed free told. c.in_ok-take_run.ensures.stored t placed free)
    c.take_run.ensures.device.goes_on.told_image c.in_ok-move_part.field-0 c.in_ok-move_part.ensures.moved c.if-not-branch.false

pub set_attributes-requires-clause-can : goal.set_attributes-requires-clause-can
set_attributes-requires-clause-can g c =
    let a = c.args.mft.now in
    let real = c.args.real in
    let count = c.clusters_for-count.result in
    let many = c.clusters_for-count.ensures ∙ ap (clusters_for real) (ap (λ n. 512 * n) c.cluster_sectors.ensures.sectors) in
    let holds = subst (λ (o : Option (Run × List Run)). IfSome o (λ with. IsFreeRun (mounted_of g.D.Disk a).clusters count with.0 with.1))
    c.in-Some.is c.in_ok-run.ensures.some in
    leave-can-write g.D.Disk c.args.found.now c.args.number c.args.put.now real count c.in-Some.run' c.in-Some.runs a c.take_run.new.mft
    c.write_runs.new.mft c.requires.volume c.requires.some c.requires.more c.requires.near c.requires.can c.requires.last many holds
    c.in_ok-take_run.ensures.taken c.in_ok-write_runs.ensures.written c.move_part.new.mft c.write_runs.ensures.disk
    c.move_part.ensures.disk (λ t placed free told. c.in_ok-take_run.ensures.stored t placed free)
    c.take_run.ensures.device.goes_on.told_image c.in_ok-move_part.field-0 c.in_ok-move_part.ensures.moved c.if-not-branch.false

pub returns-clause-left : goal.returns-clause-left
returns-clause-left g c = λ told can.
    let a = c.args.mft.now in
    let real = c.args.real in
    let count = c.clusters_for-count.result in
    let many = c.clusters_for-count.ensures ∙ ap (clusters_for real) (ap (λ n. 512 * n) c.cluster_sectors.ensures.sectors) in
    let holds = subst (λ (o : Option (Run × List Run)). IfSome o (λ with. IsFreeRun (mounted_of g.D.Disk a).clusters count with.0 with.1))
    c.in-Some.is c.in_ok-run.ensures.some in
    leave-put g.D.Disk c.args.found.now c.args.number c.args.put.now real count c.in-Some.run' c.in-Some.runs a c.take_run.new.mft
    c.write_runs.new.mft c.requires.volume c.requires.some c.requires.more c.requires.near (λ u. can) c.requires.last many holds
    c.in_ok-take_run.ensures.taken c.in_ok-write_runs.ensures.written c.move_part.new.mft c.write_runs.ensures.disk
    c.move_part.ensures.disk (λ t placed free u. c.in_ok-take_run.ensures.stored t placed free)
    c.take_run.ensures.device.goes_on.told_image c.in_ok-move_part.field-0 c.in_ok-move_part.ensures.moved c.if-not-branch.false
    c.set_attributes.new.mft c.args.times.now c.args.flags c.in_ok-set_attributes.ensures.set told

pub returns-clause-short : goal.returns-clause-short
returns-clause-short g c = λ told can.
    let a = c.args.mft.now in
    let real = c.args.real in
    let count = c.clusters_for-count.result in
    let many = c.clusters_for-count.ensures ∙ ap (clusters_for real) (ap (λ n. 512 * n) c.cluster_sectors.ensures.sectors) in
    let holds = subst (λ (o : Option (Run × List Run)). IfSome o (λ with. IsFreeRun (mounted_of g.D.Disk a).clusters count with.0 with.1))
    c.in-Some.is c.in_ok-run.ensures.some in
    leave-short g.D.Disk c.args.found.now c.args.number c.args.put.now real count c.in-Some.run' c.in-Some.runs a c.take_run.new.mft
    c.write_runs.new.mft c.requires.volume c.requires.some c.requires.more c.requires.near (λ u. can) c.requires.last many holds
    c.in_ok-take_run.ensures.taken c.in_ok-write_runs.ensures.written c.move_part.new.mft c.write_runs.ensures.disk
    c.move_part.ensures.disk (λ t placed free u. c.in_ok-take_run.ensures.stored t placed free)
    c.take_run.ensures.device.goes_on.told_image c.in_ok-move_part.field-0 c.in_ok-move_part.ensures.moved c.if-not-branch.false told

pub returns-clause-places : goal.returns-clause-places
returns-clause-places g c = λ told.
    let a = c.args.mft.now in
    let real = c.args.real in
    let count = c.clusters_for-count.result in
    let many = c.clusters_for-count.ensures ∙ ap (clusters_for real) (ap (λ n. 512 * n) c.cluster_sectors.ensures.sectors) in
    let holds = subst (λ (o : Option (Run × List Run)). IfSome o (λ with. IsFreeRun (mounted_of g.D.Disk a).clusters count with.0 with.1))
    c.in-Some.is c.in_ok-run.ensures.some in
    let one = sum_by-cons run_size c.in-Some.run' [] in
    let bits = c.take_run.ensures.few in
    let few = c.write_runs.ensures.few in
    leave-staged g.D.Disk c.args.found.now c.args.number c.args.put.now real count c.in-Some.run' c.in-Some.runs a c.take_run.new.mft
    c.write_runs.new.mft c.requires.volume c.requires.some c.requires.more c.requires.near c.requires.can c.requires.last many holds
    c.in_ok-take_run.ensures.taken c.in_ok-write_runs.ensures.written c.move_part.new.mft c.write_runs.ensures.disk
    c.move_part.ensures.disk (λ t placed free u. c.in_ok-take_run.ensures.stored t placed free)
    c.take_run.ensures.device.goes_on.told_image c.in_ok-move_part.field-0 c.in_ok-move_part.ensures.moved c.if-not-branch.false
    c.set_attributes.new.mft c.args.times.now c.args.flags c.in_ok-set_attributes.ensures.set
    (record { few = omega (arith, bits, one); only = c.take_run.ensures.places told })
    (record { few = omega (arith, few); only = c.write_runs.ensures.places.only })
    c.move_part.ensures.places c.set_attributes.ensures.places told

-- there is always a run of as many clusters as it needs
pub returns-in_default-clause-done : goal.returns-in_default-clause-done
returns-in_default-clause-done g c = λ told.
    let a = c.args.mft.now in
    let real = c.args.real in
    let count = c.clusters_for-count.result in
    let many = c.clusters_for-count.ensures ∙ ap (clusters_for real) (ap (λ n. 512 * n) c.cluster_sectors.ensures.sectors) in
    absurd (leave-free g.D.Disk c.args.found.now c.args.number real count a c.requires.volume told (c.requires.can told) many
    (subst (λ (o : Option (Run × List Run)). IfNone o (HasNoRun (mounted_of g.D.Disk a).clusters count)) c.in_default.is
    c.in_ok-run.ensures.none))

pub returns-in_default-clause-left : goal.returns-in_default-clause-left
returns-in_default-clause-left g c = λ told can.
    let a = c.args.mft.now in
    let real = c.args.real in
    let count = c.clusters_for-count.result in
    let many = c.clusters_for-count.ensures ∙ ap (clusters_for real) (ap (λ n. 512 * n) c.cluster_sectors.ensures.sectors) in
    absurd (leave-free g.D.Disk c.args.found.now c.args.number real count a c.requires.volume told can many
    (subst (λ (o : Option (Run × List Run)). IfNone o (HasNoRun (mounted_of g.D.Disk a).clusters count)) c.in_default.is
    c.in_ok-run.ensures.none))

pub returns-in_default-clause-short : goal.returns-in_default-clause-short
returns-in_default-clause-short g c = λ told can.
    let a = c.args.mft.now in
    let real = c.args.real in
    let count = c.clusters_for-count.result in
    let many = c.clusters_for-count.ensures ∙ ap (clusters_for real) (ap (λ n. 512 * n) c.cluster_sectors.ensures.sectors) in
    absurd (leave-free g.D.Disk c.args.found.now c.args.number real count a c.requires.volume told can many
    (subst (λ (o : Option (Run × List Run)). IfNone o (HasNoRun (mounted_of g.D.Disk a).clusters count)) c.in_default.is
    c.in_ok-run.ensures.none))

pub returns-in_default-clause-places : goal.returns-in_default-clause-places
returns-in_default-clause-places g c = λ told.
    let a = c.args.mft.now in
    let real = c.args.real in
    let count = c.clusters_for-count.result in
    let many = c.clusters_for-count.ensures ∙ ap (clusters_for real) (ap (λ n. 512 * n) c.cluster_sectors.ensures.sectors) in
    absurd (leave-free g.D.Disk c.args.found.now c.args.number real count a c.requires.volume told (c.requires.can told) many
    (subst (λ (o : Option (Run × List Run)). IfNone o (HasNoRun (mounted_of g.D.Disk a).clusters count)) c.in_default.is
    c.in_ok-run.ensures.none))

-- .. and it always moves
pub returns-then-not-branch-clause-done : goal.returns-then-not-branch-clause-done
returns-then-not-branch-clause-done g c = λ told.
    let a = c.args.mft.now in
    let real = c.args.real in
    let count = c.clusters_for-count.result in
    let many = c.clusters_for-count.ensures ∙ ap (clusters_for real) (ap (λ n. 512 * n) c.cluster_sectors.ensures.sectors) in
    let holds = subst (λ (o : Option (Run × List Run)). IfSome o (λ with. IsFreeRun (mounted_of g.D.Disk a).clusters count with.0 with.1))
    c.in-Some.is c.in_ok-run.ensures.some in
    absurd (leave-never g.D.Disk c.args.found.now c.args.number c.args.put.now real count c.in-Some.run' c.in-Some.runs a c.take_run.new.mft
    c.write_runs.new.mft c.requires.volume c.requires.some c.requires.more c.requires.near c.requires.can c.requires.last many holds
    c.in_ok-take_run.ensures.taken c.in_ok-write_runs.ensures.written c.move_part.new.mft c.write_runs.ensures.disk
    c.move_part.ensures.disk (λ t placed free u. c.in_ok-take_run.ensures.stored t placed free)
    c.take_run.ensures.device.goes_on.told_image c.in_ok-move_part.field-0 c.in_ok-move_part.ensures.moved c.if-not-branch.true told)

pub returns-then-not-branch-clause-left : goal.returns-then-not-branch-clause-left
returns-then-not-branch-clause-left g c = λ told can.
    let a = c.args.mft.now in
    let real = c.args.real in
    let count = c.clusters_for-count.result in
    let many = c.clusters_for-count.ensures ∙ ap (clusters_for real) (ap (λ n. 512 * n) c.cluster_sectors.ensures.sectors) in
    let holds = subst (λ (o : Option (Run × List Run)). IfSome o (λ with. IsFreeRun (mounted_of g.D.Disk a).clusters count with.0 with.1))
    c.in-Some.is c.in_ok-run.ensures.some in
    absurd (leave-never g.D.Disk c.args.found.now c.args.number c.args.put.now real count c.in-Some.run' c.in-Some.runs a c.take_run.new.mft
    c.write_runs.new.mft c.requires.volume c.requires.some c.requires.more c.requires.near c.requires.can c.requires.last many holds
    c.in_ok-take_run.ensures.taken c.in_ok-write_runs.ensures.written c.move_part.new.mft c.write_runs.ensures.disk
    c.move_part.ensures.disk (λ t placed free u. c.in_ok-take_run.ensures.stored t placed free)
    c.take_run.ensures.device.goes_on.told_image c.in_ok-move_part.field-0 c.in_ok-move_part.ensures.moved c.if-not-branch.true told)

pub returns-then-not-branch-clause-short : goal.returns-then-not-branch-clause-short
returns-then-not-branch-clause-short g c = λ told can.
    let a = c.args.mft.now in
    let real = c.args.real in
    let count = c.clusters_for-count.result in
    let many = c.clusters_for-count.ensures ∙ ap (clusters_for real) (ap (λ n. 512 * n) c.cluster_sectors.ensures.sectors) in
    let holds = subst (λ (o : Option (Run × List Run)). IfSome o (λ with. IsFreeRun (mounted_of g.D.Disk a).clusters count with.0 with.1))
    c.in-Some.is c.in_ok-run.ensures.some in
    absurd (leave-never g.D.Disk c.args.found.now c.args.number c.args.put.now real count c.in-Some.run' c.in-Some.runs a c.take_run.new.mft
    c.write_runs.new.mft c.requires.volume c.requires.some c.requires.more c.requires.near c.requires.can c.requires.last many holds
    c.in_ok-take_run.ensures.taken c.in_ok-write_runs.ensures.written c.move_part.new.mft c.write_runs.ensures.disk
    c.move_part.ensures.disk (λ t placed free u. c.in_ok-take_run.ensures.stored t placed free)
    c.take_run.ensures.device.goes_on.told_image c.in_ok-move_part.field-0 c.in_ok-move_part.ensures.moved c.if-not-branch.true told)

pub returns-then-not-branch-clause-places : goal.returns-then-not-branch-clause-places
returns-then-not-branch-clause-places g c = λ told.
    let a = c.args.mft.now in
    let real = c.args.real in
    let count = c.clusters_for-count.result in
    let many = c.clusters_for-count.ensures ∙ ap (clusters_for real) (ap (λ n. 512 * n) c.cluster_sectors.ensures.sectors) in
    let holds = subst (λ (o : Option (Run × List Run)). IfSome o (λ with. IsFreeRun (mounted_of g.D.Disk a).clusters count with.0 with.1))
    c.in-Some.is c.in_ok-run.ensures.some in
    absurd (leave-never g.D.Disk c.args.found.now c.args.number c.args.put.now real count c.in-Some.run' c.in-Some.runs a c.take_run.new.mft
    c.write_runs.new.mft c.requires.volume c.requires.some c.requires.more c.requires.near c.requires.can c.requires.last many holds
    c.in_ok-take_run.ensures.taken c.in_ok-write_runs.ensures.written c.move_part.new.mft c.write_runs.ensures.disk
    c.move_part.ensures.disk (λ t placed free u. c.in_ok-take_run.ensures.stored t placed free)
    c.take_run.ensures.device.goes_on.told_image c.in_ok-move_part.field-0 c.in_ok-move_part.ensures.moved c.if-not-branch.true told)

pub returns-then-not-branch-clause-tables : goal.returns-then-not-branch-clause-tables
returns-then-not-branch-clause-tables g c = λ told.
    let a = c.args.mft.now in
    let real = c.args.real in
    let count = c.clusters_for-count.result in
    let many = c.clusters_for-count.ensures ∙ ap (clusters_for real) (ap (λ n. 512 * n) c.cluster_sectors.ensures.sectors) in
    let holds = subst (λ (o : Option (Run × List Run)). IfSome o (λ with. IsFreeRun (mounted_of g.D.Disk a).clusters count with.0 with.1))
    c.in-Some.is c.in_ok-run.ensures.some in
    absurd (leave-never g.D.Disk c.args.found.now c.args.number c.args.put.now real count c.in-Some.run' c.in-Some.runs a c.take_run.new.mft
    c.write_runs.new.mft c.requires.volume c.requires.some c.requires.more c.requires.near c.requires.can c.requires.last many holds
    c.in_ok-take_run.ensures.taken c.in_ok-write_runs.ensures.written c.move_part.new.mft c.write_runs.ensures.disk
    c.move_part.ensures.disk (λ t placed free u. c.in_ok-take_run.ensures.stored t placed free)
    c.take_run.ensures.device.goes_on.told_image c.in_ok-move_part.field-0 c.in_ok-move_part.ensures.moved c.if-not-branch.true
    (sym (c.move_part.ensures.disk.goes_on.told_image ∙ c.write_runs.ensures.disk.goes_on.told_image
    ∙ c.take_run.ensures.device.goes_on.told_image) ∙ told))
