use Rattle.std.proofs.Common.{inl, refl}
use Rattle.volume_def.specs.FileNames.{names_of}
use Rattle.volume_def.specs.Files.{records_of}
use Rattle.mft_table.specs.Mft.{view}
use Rattle.stream_changes.specs.Below.{IsSettable}
use Rattle.tree_ops.specs.Edits.{setattr_edit}
use Rattle.stream_changes.proofs.GivingLaws.{gives-none}
use Rattle.tree_ops.proofs.EndLaws.{all-keeps, ended, placed-back, stages-back}
use Rattle.tree_ops.proofs.PlaceLaws.{can-finish}
use Rattle.tree_ops.proofs.StagedEdits.{attributes-staged, giving-staged}
use Rattle.tree_ops.proofs.StillLaws.{reads-still, still-then, still-told}
use Rattle.tree_ops.proofs.TablesKept.{tables-disk}
use Rattle.tree_ops.proofs.edit.set_flags.Goals as goal

pub stage-requires-clause-can : goal.stage-requires-clause-can
stage-requires-clause-can g c =
    let old = c.args.mft.now in
    let one = reads-still g.D.Disk old c.find_settable.new.mft c.find_settable.ensures.answered.reads
    c.find_settable.ensures.answered.only in
    let two = reads-still g.D.Disk c.find_settable.new.mft c.mark_place.new.mft c.mark_place.ensures.reads.0 c.mark_place.ensures.reads.1 in
    still-told g.D.Disk old c.mark_place.new.mft (still-then g.D.Disk old c.find_settable.new.mft c.mark_place.new.mft one two)
    (λ v. IsSettable v c.in_ok-found.found) c.in_ok-found.ensures.can

pub finish-requires : goal.finish-requires
finish-requires g c =
    let old = c.args.mft.now in
    let edit = setattr_edit c.args.path.now c.args.flags c.args.moment in
    let found = c.in_ok-found.found in
    let mid = c.mark_place.new.mft in
    let one = reads-still g.D.Disk old c.find_settable.new.mft c.find_settable.ensures.answered.reads
    c.find_settable.ensures.answered.only in
    let two = reads-still g.D.Disk c.find_settable.new.mft mid c.mark_place.ensures.reads.0 c.mark_place.ensures.reads.1 in
    let both = still-then g.D.Disk old c.find_settable.new.mft mid one two in
    record {
      can =
          can-finish g.D.Disk old c.stage.new.mft c.args.mark.now c.requires.can edit found.number
          (λ told. let set = c.in_ok-found.ensures.can told in (set.can.node, set.can.can)) (λ sector is. inl is) c.in_ok-place.place
          (placed-back g.D.Disk old c.find_settable.new.mft one c.args.mark.now c.in_ok-place.place c.in_ok-place.ensures.placed)
          (all-keeps g.D.Disk old mid both c.stage.new.mft (tables-disk g.D.Disk mid c.stage.new.mft c.in_ok-stage.ensures.disk))
          (stages-back g.D.Disk old mid both edit found.number c.stage.new.mft
          (λ told. giving-staged g.D.Disk 4 found.number (view g.D.Disk mid) mid c.stage.new.mft
          (gives-none g.D.Disk 4 found.number (view g.D.Disk mid) mid c.stage.new.mft
          (attributes-staged g.D.Disk found.number (names_of (records_of (view g.D.Disk mid)) found.number) mid c.stage.new.mft
          (c.in_ok-stage.ensures.places told)))));
    }

pub returns-clause-ends : goal.returns-clause-ends
returns-clause-ends g c =
    let old = c.args.mft.now in
    let found = c.in_ok-found.found in
    let mid = c.mark_place.new.mft in
    let one = reads-still g.D.Disk old c.find_settable.new.mft c.find_settable.ensures.answered.reads
    c.find_settable.ensures.answered.only in
    let two = reads-still g.D.Disk c.find_settable.new.mft mid c.mark_place.ensures.reads.0 c.mark_place.ensures.reads.1 in
    let both = still-then g.D.Disk old c.find_settable.new.mft mid one two in
    ended g.D.Disk old mid both (setattr_edit c.args.path.now c.args.flags c.args.moment) found.number c.stage.new.mft
    (tables-disk g.D.Disk mid c.stage.new.mft c.in_ok-stage.ensures.disk) c.in_ok-stage.ensures.tables
    (λ told. record {
      found = found;
      file_is = refl;
      can = still-told g.D.Disk old mid both (λ v. IsSettable v found) c.in_ok-found.ensures.can told;
      sets = c.in_ok-stage.ensures.sets told;
    })
    (λ told. giving-staged g.D.Disk 4 found.number (view g.D.Disk mid) mid c.stage.new.mft
    (gives-none g.D.Disk 4 found.number (view g.D.Disk mid) mid c.stage.new.mft
    (attributes-staged g.D.Disk found.number (names_of (records_of (view g.D.Disk mid)) found.number) mid c.stage.new.mft
    (c.in_ok-stage.ensures.places told))))
    c.args.mark.now c.in_ok-found.ensures.answered.is c.requires.can.clear.plain c.in_ok-place.place
    (placed-back g.D.Disk old c.find_settable.new.mft one c.args.mark.now c.in_ok-place.place c.in_ok-place.ensures.placed)
    c.finish.new.mft c.finish.ensures.mounted c.finish.ensures.goes_on c.finish.new.mark c.finish.result c.finish.ensures.done
    c.finish.ensures.fails c.finish.ensures.mark c.finish.ensures.device c.finish.ensures.most
