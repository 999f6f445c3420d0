use Rattle.std.proofs.Common.{◌≡◌, Ok, inr, refl, subst, sym}
use Rattle.mft_table.specs.Mft.{mounted_of, view}
use Rattle.tree_model.specs.Reading.{read}
use Rattle.name_changes.specs.Places.{place_of, place_wanted}
use Rattle.name_changes.specs.Makes.{IsToMake}
use Rattle.tree_read.specs.Standings.{number_within}
use Rattle.tree_ops.specs.Edits.{create_edit}
use Rattle.tree_ops.proofs.EndLaws.{all-keeps, ended, placed-back, stages-back}
use Rattle.tree_ops.proofs.PlaceLaws.{can-finish}
use Rattle.tree_ops.proofs.StillLaws.{reads-still, still-then, still-told}
use Rattle.tree_ops.proofs.create.create.Goals as goal

pub stage_file-requires-clause-can : goal.stage_file-requires-clause-can
stage_file-requires-clause-can g c told =
    let old = c.args.mft.now in
    let mid = c.mark_place.new.mft in
    let one = reads-still g.D.Disk old c.find_to_make.new.mft c.find_to_make.ensures.answered.reads c.find_to_make.ensures.answered.only in
    let two = reads-still g.D.Disk c.find_to_make.new.mft mid c.mark_place.ensures.reads.0 c.mark_place.ensures.reads.1 in
    let both = still-then g.D.Disk old c.find_to_make.new.mft mid one two in
    subst (λ m. IsToMake c.args.directory (view g.D.Disk mid) m c.in_ok-found.found) (sym both.keeps.mounted)
    (still-told g.D.Disk old mid both (λ v. IsToMake c.args.directory v (mounted_of g.D.Disk old) c.in_ok-found.found)
    c.in_ok-found.ensures.can told)

pub finish-requires : goal.finish-requires
finish-requires g c =
    let old = c.args.mft.now in
    let edit = create_edit c.args.directory c.args.path.now c.args.moment in
    let dir = number_within c.in_ok-found.found.standing in
    let mid = c.mark_place.new.mft in
    let one = reads-still g.D.Disk old c.find_to_make.new.mft c.find_to_make.ensures.answered.reads c.find_to_make.ensures.answered.only in
    let two = reads-still g.D.Disk c.find_to_make.new.mft mid c.mark_place.ensures.reads.0 c.mark_place.ensures.reads.1 in
    let both = still-then g.D.Disk old c.find_to_make.new.mft mid one two in
    record {
      can =
          can-finish g.D.Disk old c.stage_file.new.mft c.args.mark.now c.requires.can edit dir
          (λ told. let set = (c.in_ok-found.ensures.can told).makeable.settable in (set.can.node, set.can.can)) (λ sector is. inr is)
          c.in_ok-place.place
          (placed-back g.D.Disk old c.find_to_make.new.mft one c.args.mark.now c.in_ok-place.place c.in_ok-place.ensures.placed)
          (all-keeps g.D.Disk old mid both c.stage_file.new.mft c.in_ok-stage_file.ensures.keeps)
          (stages-back g.D.Disk old mid both edit dir c.stage_file.new.mft c.in_ok-stage_file.ensures.places);
    }

pub returns-clause-ends : goal.returns-clause-ends
returns-clause-ends g c =
    let old = c.args.mft.now in
    let found = c.in_ok-found.found in
    let mid = c.mark_place.new.mft in
    let one = reads-still g.D.Disk old c.find_to_make.new.mft c.find_to_make.ensures.answered.reads c.find_to_make.ensures.answered.only in
    let two = reads-still g.D.Disk c.find_to_make.new.mft mid c.mark_place.ensures.reads.0 c.mark_place.ensures.reads.1 in
    let both = still-then g.D.Disk old c.find_to_make.new.mft mid one two in
    ended g.D.Disk old mid both (create_edit c.args.directory c.args.path.now c.args.moment)
    (number_within found.standing) c.stage_file.new.mft
    c.in_ok-stage_file.ensures.keeps c.in_ok-stage_file.ensures.tables
    (λ told. record {
      found = found;
      parent = refl;
      place = still-told g.D.Disk old mid both (λ v. place_wanted (read v) c.args.path.now ≡ Ok (place_of found))
          c.in_ok-found.ensures.place
          told;
      makes = c.in_ok-stage_file.ensures.makes told;
    })
    c.in_ok-stage_file.ensures.places c.args.mark.now c.in_ok-found.ensures.answered.is c.requires.can.clear.plain c.in_ok-place.place
    (placed-back g.D.Disk old c.find_to_make.new.mft one c.args.mark.now c.in_ok-place.place c.in_ok-place.ensures.placed)
    c.finish.new.mft c.finish.ensures.mounted c.finish.ensures.goes_on c.finish.new.mark c.finish.result c.finish.ensures.done
    c.finish.ensures.fails c.finish.ensures.mark c.finish.ensures.device c.finish.ensures.most
