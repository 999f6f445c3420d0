use Rattle.std.proofs.Common.{◌≡◌, ◌+◌, ◌*◌, ◌∙◌, List, Option, Some, ap, length, max, subst, sym, arith}
use Rattle.std.specs.Prelude.{IfNone, IfSome}
use Rattle.std.proofs.lemmas.Result.{on_ok_weaker}
use Rattle.list_laws.proofs.OptionLaws.{some_same}
use Rattle.ntfs_def.specs.Rounded.{clusters_for}
use Rattle.ntfs_def.specs.declared.run_text.Run.{Run}
use Rattle.ntfs_def.specs.declared.sizes.Sizes.{Sizes}
use Rattle.volume_def.specs.Files.{content_runs}
use Rattle.attr_view.specs.View.{attribute_of}
use Rattle.mft_table.specs.Mft.{mounted_of, view}
use Rattle.file_record.specs.Written.{PartHeld}
use Rattle.stored_bits.proofs.DeviceKept.{device-same}
use Rattle.stream_changes.specs.Reached.{CannotReach, ReachesWith}
use Rattle.stream_changes.proofs.Lengthened.{held-sizes}
use Rattle.stream_changes.proofs.Reached.{reach-can-write, reach-in-use, reach-put, reach-staged, reaches-held, reaches-never}
use Rattle.stream_changes.proofs.longer.write_behind.Goals as goal

pub returns-in_default-clause-device : goal.returns-in_default-clause-device
returns-in_default-clause-device g c = device-same g.D.Disk c.args.mft.now

pub returns-in_err-run-clause-device : goal.returns-in_err-run-clause-device
returns-in_err-run-clause-device g c = device-same g.D.Disk c.args.mft.now

pub returns-in_default-2-clause-device : goal.returns-in_default-2-clause-device
returns-in_default-2-clause-device g c = device-same g.D.Disk c.args.mft.now

-- the volume between, as it is where its record was edited
pub set_attributes-requires-clause-volume : goal.set_attributes-requires-clause-volume
set_attributes-requires-clause-volume g c =
    let a = c.args.mft.now in
    let found = c.args.found.now in
    let f = c.args.number in
    let bytes = c.args.bytes.now in
    let end = c.args.at + length bytes in
    let run = c.in-Some-2.run' in
    let all = c.in-Some-2.runs in
    let clusters = c.clusters_for-clusters.result in
    let many = c.clusters_for-clusters.ensures ∙ ap (clusters_for end) (ap (λ n. 512 * n) c.cluster_sectors.ensures.sectors) in
    reach-in-use g.D.Disk found f c.args.at bytes run all a c.take_needed.new.mft c.write_runs.new.mft c.requires.volume c.requires.near
    c.requires.can c.requires.some
    (λ t. reaches-held (view g.D.Disk a) found f end clusters (c.requires.can t).give c.args.held.now
    (mounted_of g.D.Disk a).clusters run all
    (c.requires.held t) many
    (subst (λ (o : Option (Option Run × List Run)). IfSome o (λ with. (runs : List Run)
    → PartHeld c.args.held.now found.part (λ part. content_runs part.content ≡ Some runs)
    → ReachesWith (mounted_of g.D.Disk a).clusters runs clusters with.0 with.1)) c.in-Some-2.is c.in_ok-run.ensures.reaches))
    c.in_ok-take_needed.ensures.taken c.in_ok-write_runs.ensures.written c.extend_part.new.mft c.max-real.result c.max-initialized.result
    c.write_runs.ensures.disk c.extend_part.ensures.disk c.in_ok-take_needed.ensures.stored c.take_needed.ensures.device.goes_on.told_image
    (λ t. c.max-real.ensures ∙ ap (λ (s : Sizes). max s.real end)
    (some_same (sym c.in-Some.is ∙ held-sizes (view g.D.Disk a) found f (c.requires.can t).give
    c.args.held.now (attribute_of c.attr.result) c.sizes.result (c.requires.held t) c.attr.ensures.part c.sizes.ensures)))
    (λ t. c.max-initialized.ensures ∙ ap (λ (s : Sizes). max s.initialized end)
    (some_same (sym c.in-Some.is ∙ held-sizes (view g.D.Disk a) found f (c.requires.can t).give
    c.args.held.now (attribute_of c.attr.result) c.sizes.result (c.requires.held t) c.attr.ensures.part c.sizes.ensures)))
    c.in_ok-extend_part.field-0 c.in_ok-extend_part.ensures.extended c.if-not-branch.false

pub set_attributes-requires-clause-can : goal.set_attributes-requires-clause-can
set_attributes-requires-clause-can g c =
    let a = c.args.mft.now in
    let found = c.args.found.now in
    let f = c.args.number in
    let bytes = c.args.bytes.now in
    let end = c.args.at + length bytes in
    let run = c.in-Some-2.run' in
    let all = c.in-Some-2.runs in
    let clusters = c.clusters_for-clusters.result in
    let many = c.clusters_for-clusters.ensures ∙ ap (clusters_for end) (ap (λ n. 512 * n) c.cluster_sectors.ensures.sectors) in
    reach-can-write g.D.Disk found f c.args.at bytes run all a c.take_needed.new.mft c.write_runs.new.mft c.requires.volume c.requires.near
    c.requires.can c.requires.some
    (λ t. reaches-held (view g.D.Disk a) found f end clusters (c.requires.can t).give c.args.held.now
    (mounted_of g.D.Disk a).clusters run all
    (c.requires.held t) many
    (subst (λ (o : Option (Option Run × List Run)). IfSome o (λ with. (runs : List Run)
    → PartHeld c.args.held.now found.part (λ part. content_runs part.content ≡ Some runs)
    → ReachesWith (mounted_of g.D.Disk a).clusters runs clusters with.0 with.1)) c.in-Some-2.is c.in_ok-run.ensures.reaches))
    c.in_ok-take_needed.ensures.taken c.in_ok-write_runs.ensures.written c.extend_part.new.mft c.max-real.result c.max-initialized.result
    c.write_runs.ensures.disk c.extend_part.ensures.disk c.in_ok-take_needed.ensures.stored c.take_needed.ensures.device.goes_on.told_image
    (λ t. c.max-real.ensures ∙ ap (λ (s : Sizes). max s.real end)
    (some_same (sym c.in-Some.is ∙ held-sizes (view g.D.Disk a) found f (c.requires.can t).give
    c.args.held.now (attribute_of c.attr.result) c.sizes.result (c.requires.held t) c.attr.ensures.part c.sizes.ensures)))
    (λ t. c.max-initialized.ensures ∙ ap (λ (s : Sizes). max s.initialized end)
    (some_same (sym c.in-Some.is ∙ held-sizes (view g.D.Disk a) found f (c.requires.can t).give
    c.args.held.now (attribute_of c.attr.result) c.sizes.result (c.requires.held t) c.attr.ensures.part c.sizes.ensures)))
    c.in_ok-extend_part.field-0 c.in_ok-extend_part.ensures.extended c.if-not-branch.false

pub returns-clause-written : goal.returns-clause-written
returns-clause-written g c =
    let a = c.args.mft.now in
    let found = c.args.found.now in
    let f = c.args.number in
    let bytes = c.args.bytes.now in
    let end = c.args.at + length bytes in
    let run = c.in-Some-2.run' in
    let all = c.in-Some-2.runs in
    let clusters = c.clusters_for-clusters.result in
    let many = c.clusters_for-clusters.ensures ∙ ap (clusters_for end) (ap (λ n. 512 * n) c.cluster_sectors.ensures.sectors) in
    on_ok_weaker c.set_attributes.result (λ sets told can.
    reach-put g.D.Disk found f c.args.at bytes run all a c.take_needed.new.mft c.write_runs.new.mft c.requires.volume c.requires.near
    (λ u. can) c.requires.some
    (λ t. reaches-held (view g.D.Disk a) found f end clusters can.give c.args.held.now (mounted_of g.D.Disk a).clusters run all
    (c.requires.held t) many
    (subst (λ (o : Option (Option Run × List Run)). IfSome o (λ with. (runs : List Run)
    → PartHeld c.args.held.now found.part (λ part. content_runs part.content ≡ Some runs)
    → ReachesWith (mounted_of g.D.Disk a).clusters runs clusters with.0 with.1)) c.in-Some-2.is c.in_ok-run.ensures.reaches))
    c.in_ok-take_needed.ensures.taken c.in_ok-write_runs.ensures.written c.extend_part.new.mft c.max-real.result c.max-initialized.result
    c.write_runs.ensures.disk c.extend_part.ensures.disk c.in_ok-take_needed.ensures.stored c.take_needed.ensures.device.goes_on.told_image
    (λ t. c.max-real.ensures ∙ ap (λ (s : Sizes). max s.real end)
    (some_same (sym c.in-Some.is ∙ held-sizes (view g.D.Disk a) found f can.give
    c.args.held.now (attribute_of c.attr.result) c.sizes.result (c.requires.held t) c.attr.ensures.part c.sizes.ensures)))
    (λ t. c.max-initialized.ensures
    ∙ ap (λ (s : Sizes). max s.initialized end) (some_same (sym c.in-Some.is ∙ held-sizes (view g.D.Disk a) found f can.give
    c.args.held.now (attribute_of c.attr.result) c.sizes.result (c.requires.held t) c.attr.ensures.part c.sizes.ensures)))
    c.in_ok-extend_part.field-0 c.in_ok-extend_part.ensures.extended c.if-not-branch.false
    c.set_attributes.new.mft c.args.times.now c.args.flags sets told) c.set_attributes.ensures.set

pub returns-clause-places : goal.returns-clause-places
returns-clause-places g c =
    let a = c.args.mft.now in
    let found = c.args.found.now in
    let f = c.args.number in
    let bytes = c.args.bytes.now in
    let end = c.args.at + length bytes in
    let run = c.in-Some-2.run' in
    let all = c.in-Some-2.runs in
    let clusters = c.clusters_for-clusters.result in
    let many = c.clusters_for-clusters.ensures ∙ ap (clusters_for end) (ap (λ n. 512 * n) c.cluster_sectors.ensures.sectors) in
    let few = c.write_runs.ensures.few in
    on_ok_weaker c.set_attributes.result (λ sets told.
    reach-staged g.D.Disk found f c.args.at bytes run all a c.take_needed.new.mft c.write_runs.new.mft c.requires.volume c.requires.near
    c.requires.can c.requires.some
    (λ t. reaches-held (view g.D.Disk a) found f end clusters (c.requires.can t).give c.args.held.now
    (mounted_of g.D.Disk a).clusters run all
    (c.requires.held t) many
    (subst (λ (o : Option (Option Run × List Run)). IfSome o (λ with. (runs : List Run)
    → PartHeld c.args.held.now found.part (λ part. content_runs part.content ≡ Some runs)
    → ReachesWith (mounted_of g.D.Disk a).clusters runs clusters with.0 with.1)) c.in-Some-2.is c.in_ok-run.ensures.reaches))
    c.in_ok-take_needed.ensures.taken c.in_ok-write_runs.ensures.written c.extend_part.new.mft c.max-real.result c.max-initialized.result
    c.write_runs.ensures.disk c.extend_part.ensures.disk c.in_ok-take_needed.ensures.stored c.take_needed.ensures.device.goes_on.told_image
    (λ t. c.max-real.ensures ∙ ap (λ (s : Sizes). max s.real end)
    (some_same (sym c.in-Some.is ∙ held-sizes (view g.D.Disk a) found f (c.requires.can t).give
    c.args.held.now (attribute_of c.attr.result) c.sizes.result (c.requires.held t) c.attr.ensures.part c.sizes.ensures)))
    (λ t. c.max-initialized.ensures ∙ ap (λ (s : Sizes). max s.initialized end)
    (some_same (sym c.in-Some.is ∙ held-sizes (view g.D.Disk a) found f (c.requires.can t).give
    c.args.held.now (attribute_of c.attr.result) c.sizes.result (c.requires.held t) c.attr.ensures.part c.sizes.ensures)))
    c.in_ok-extend_part.field-0 c.in_ok-extend_part.ensures.extended c.if-not-branch.false
    c.set_attributes.new.mft c.args.times.now c.args.flags sets (c.take_needed.ensures.places told)
    (record { few = omega (arith, few); only = c.write_runs.ensures.places.only })
    c.extend_part.ensures.places c.set_attributes.ensures.places told) c.set_attributes.ensures.set

-- there is always a run of as many clusters as it needs
pub returns-in_default-2-clause-written : goal.returns-in_default-2-clause-written
returns-in_default-2-clause-written g c = λ told can.
    let a = c.args.mft.now in
    let found = c.args.found.now in
    let f = c.args.number in
    let end = c.args.at + length c.args.bytes.now in
    let clusters = c.clusters_for-clusters.result in
    let many = c.clusters_for-clusters.ensures ∙ ap (clusters_for end) (ap (λ n. 512 * n) c.cluster_sectors.ensures.sectors) in
    absurd (reaches-never (view g.D.Disk a) found f c.args.at (length c.args.bytes.now) clusters can c.args.held.now
    (mounted_of g.D.Disk a) (c.requires.volume told) (c.requires.some told) c.requires.near (c.requires.held told) many
    (subst (λ (o : Option (Option Run × List Run)). IfNone o ((runs : List Run)
    → PartHeld c.args.held.now found.part (λ part. content_runs part.content ≡ Some runs)
    → CannotReach (mounted_of g.D.Disk a).clusters runs clusters)) c.in_default-2.is c.in_ok-run.ensures.none))

pub returns-in_default-2-clause-places : goal.returns-in_default-2-clause-places
returns-in_default-2-clause-places g c = λ told.
    let a = c.args.mft.now in
    let found = c.args.found.now in
    let f = c.args.number in
    let end = c.args.at + length c.args.bytes.now in
    let clusters = c.clusters_for-clusters.result in
    let many = c.clusters_for-clusters.ensures ∙ ap (clusters_for end) (ap (λ n. 512 * n) c.cluster_sectors.ensures.sectors) in
    absurd (reaches-never (view g.D.Disk a) found f c.args.at (length c.args.bytes.now) clusters (c.requires.can told) c.args.held.now
    (mounted_of g.D.Disk a) (c.requires.volume told) (c.requires.some told) c.requires.near (c.requires.held told) many
    (subst (λ (o : Option (Option Run × List Run)). IfNone o ((runs : List Run)
    → PartHeld c.args.held.now found.part (λ part. content_runs part.content ≡ Some runs)
    → CannotReach (mounted_of g.D.Disk a).clusters runs clusters)) c.in_default-2.is c.in_ok-run.ensures.none))
