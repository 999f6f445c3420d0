use Rattle.std.proofs.Common.{inl}
use Rattle.mft_table.specs.Mft.{view}
use Rattle.tree_read.specs.Nodes.{number_of}
use Rattle.tree_ops.specs.Edits.{IsFoundFor, most_for, stream_edit}
use Rattle.tree_ops.proofs.EndLaws.{all-keeps, ended, placed-back, stages-back}
use Rattle.tree_ops.proofs.PlaceLaws.{can-finish}
use Rattle.tree_ops.proofs.StagedEdits.{giving-staged}
use Rattle.tree_ops.proofs.StillLaws.{reads-still, still-can, still-then, still-told}
use Rattle.tree_ops.proofs.TablesKept.{tables-device}
use Rattle.tree_ops.proofs.streams.edit_stream.Goals as goal

pub mark_place-requires : goal.mark_place-requires
mark_place-requires g c = record {
  can = still-can g.D.Disk c.args.mft.now c.find_stream.new.mft
      (reads-still g.D.Disk c.args.mft.now c.find_stream.new.mft c.find_stream.ensures.answered.reads c.find_stream.ensures.answered.only)
      c.args.mark.now c.requires.can;
}

pub stage_stream-requires-clause-can : goal.stage_stream-requires-clause-can
stage_stream-requires-clause-can g c =
    let old = c.args.mft.now in
    let one = reads-still g.D.Disk old c.find_stream.new.mft c.find_stream.ensures.answered.reads c.find_stream.ensures.answered.only in
    let two = reads-still g.D.Disk c.find_stream.new.mft c.mark_place.new.mft c.mark_place.ensures.reads.0 c.mark_place.ensures.reads.1 in
    λ told. (
      c.args.name.now,
      still-told g.D.Disk old c.mark_place.new.mft (still-then g.D.Disk old c.find_stream.new.mft c.mark_place.new.mft one two)
          (λ v. IsFoundFor c.args.what v c.in_ok-found.found c.args.name.now) c.in_ok-found.ensures.can told,
    )

pub finish-requires : goal.finish-requires
finish-requires g c =
    let old = c.args.mft.now in
    let edit = stream_edit c.args.what c.args.opens.now c.args.path.now c.args.name.now c.args.moment in
    let found = c.in_ok-found.found in
    let mid = c.mark_place.new.mft in
    let one = reads-still g.D.Disk old c.find_stream.new.mft c.find_stream.ensures.answered.reads c.find_stream.ensures.answered.only in
    let two = reads-still g.D.Disk c.find_stream.new.mft mid c.mark_place.ensures.reads.0 c.mark_place.ensures.reads.1 in
    let both = still-then g.D.Disk old c.find_stream.new.mft mid one two in
    record {
      can =
          can-finish g.D.Disk old c.stage_stream.new.mft c.args.mark.now c.requires.can edit (number_of found.held)
          (λ told. let set = (c.in_ok-found.ensures.can told).settable in (set.can.node, set.can.can)) (λ sector is. inl is)
          c.in_ok-place.place
          (placed-back g.D.Disk old c.find_stream.new.mft one c.args.mark.now c.in_ok-place.place c.in_ok-place.ensures.placed)
          (all-keeps g.D.Disk old mid both c.stage_stream.new.mft
          (tables-device g.D.Disk mid c.stage_stream.new.mft c.in_ok-stage_stream.ensures.device))
          (stages-back g.D.Disk old mid both edit (number_of found.held) c.stage_stream.new.mft
          (λ told. giving-staged g.D.Disk (most_for c.args.what) (number_of found.held) (view g.D.Disk mid) mid c.stage_stream.new.mft
          (c.in_ok-stage_stream.ensures.places told)));
    }

pub returns-clause-ends : goal.returns-clause-ends
returns-clause-ends g c =
    let old = c.args.mft.now in
    let found = c.in_ok-found.found in
    let mid = c.mark_place.new.mft in
    let one = reads-still g.D.Disk old c.find_stream.new.mft c.find_stream.ensures.answered.reads c.find_stream.ensures.answered.only in
    let two = reads-still g.D.Disk c.find_stream.new.mft mid c.mark_place.ensures.reads.0 c.mark_place.ensures.reads.1 in
    let both = still-then g.D.Disk old c.find_stream.new.mft mid one two in
    ended g.D.Disk old mid both (stream_edit c.args.what c.args.opens.now c.args.path.now c.args.name.now c.args.moment)
    (number_of found.held) c.stage_stream.new.mft
    (tables-device g.D.Disk mid c.stage_stream.new.mft c.in_ok-stage_stream.ensures.device) c.in_ok-stage_stream.ensures.tables
    (λ told. c.in_ok-stage_stream.ensures.edits told c.args.name.now
    (still-told g.D.Disk old mid both (λ v. IsFoundFor c.args.what v found c.args.name.now) c.in_ok-found.ensures.can told))
    (λ told. giving-staged g.D.Disk (most_for c.args.what) (number_of found.held) (view g.D.Disk mid) mid c.stage_stream.new.mft
    (c.in_ok-stage_stream.ensures.places told))
    c.args.mark.now c.in_ok-found.ensures.answered.is c.requires.can.clear.plain c.in_ok-place.place
    (placed-back g.D.Disk old c.find_stream.new.mft one c.args.mark.now c.in_ok-place.place c.in_ok-place.ensures.placed)
    c.finish.new.mft c.finish.ensures.mounted c.finish.ensures.goes_on c.finish.new.mark c.finish.result c.finish.ensures.done
    c.finish.ensures.fails c.finish.ensures.mark c.finish.ensures.device c.finish.ensures.most
