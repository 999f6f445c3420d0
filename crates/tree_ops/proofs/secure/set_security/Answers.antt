use Rattle.std.proofs.Common.{◌≡◌, ℕ, true, Err, inl, subst, ◌∙◌}
use Rattle.volume_def.specs.FileNames.{names_of}
use Rattle.volume_def.specs.Files.{records_of}
use Rattle.mft_table.specs.Mft.{faults_of, stage_of, view}
use Rattle.mft_table.proofs.FreeStaged.{GoesOn-then}
use Rattle.tree_read.specs.Answered.{Counts}
use Rattle.tree_read.specs.declared.stop.Stop.{Stop}
use Rattle.tree_read.specs.declared.stop.Stop.TheVariants as stop
use Rattle.tree_read.proofs.GivesLaws.{handed-on}
use Rattle.stream_changes.specs.Below.{IsSecurable}
use Rattle.tree_ops.specs.Edits.{most_of_value, setsec_edit}
use Rattle.tree_ops.specs.declared.place.MarkPlace.{MarkPlace}
use Rattle.tree_ops.proofs.SetsecBy.{described-by}
use Rattle.stream_changes.proofs.GivingLaws.{gives-none}
use Rattle.tree_ops.proofs.EndLaws.{all-keeps, ended, placed-back, stages-back}
use Rattle.tree_ops.proofs.PlaceLaws.{can-finish}
use Rattle.tree_ops.proofs.StagedEdits.{giving-staged, value-staged}
use Rattle.tree_ops.proofs.StillLaws.{reads-still, still-can, still-then, still-told}
use Rattle.tree_ops.proofs.TablesKept.{tables-disk}
use Rattle.tree_ops.proofs.secure.set_security.Goals as goal

pub mark_place-requires : goal.mark_place-requires
mark_place-requires g c = record {
  can = still-can g.D.Disk c.args.mft.now c.find_securable.new.mft
      (reads-still g.D.Disk c.args.mft.now c.find_securable.new.mft c.find_securable.ensures.reads.0 c.find_securable.ensures.reads.1)
      c.args.mark.now c.requires.can;
}

pub stage_security-requires-clause-can : goal.stage_security-requires-clause-can
stage_security-requires-clause-can g c =
    let old = c.args.mft.now in
    let one = reads-still g.D.Disk old c.find_securable.new.mft c.find_securable.ensures.reads.0 c.find_securable.ensures.reads.1 in
    let two = reads-still g.D.Disk c.find_securable.new.mft c.mark_place.new.mft
    c.mark_place.ensures.reads.0 c.mark_place.ensures.reads.1 in
    still-told g.D.Disk old c.mark_place.new.mft (still-then g.D.Disk old c.find_securable.new.mft c.mark_place.new.mft one two)
    (λ v. IsSecurable v c.in_ok-found.found) c.in_ok-found.ensures.can

pub finish-requires : goal.finish-requires
finish-requires g c =
    let old = c.args.mft.now in
    let edit = setsec_edit c.args.path.now c.args.id true c.args.moment in
    let found = c.in_ok-found.found in
    let mid = c.mark_place.new.mft in
    let one = reads-still g.D.Disk old c.find_securable.new.mft c.find_securable.ensures.reads.0 c.find_securable.ensures.reads.1 in
    let two = reads-still g.D.Disk c.find_securable.new.mft mid c.mark_place.ensures.reads.0 c.mark_place.ensures.reads.1 in
    let both = still-then g.D.Disk old c.find_securable.new.mft mid one two in
    record {
      can =
          can-finish g.D.Disk old c.stage_security.new.mft c.args.mark.now c.requires.can edit found.number
          (λ told. let set = (c.in_ok-found.ensures.can told).settable in (set.can.node, set.can.can)) (λ sector is. inl is)
          c.in_ok-place.place
          (placed-back g.D.Disk old c.find_securable.new.mft one c.args.mark.now c.in_ok-place.place c.in_ok-place.ensures.placed)
          (all-keeps g.D.Disk old mid both c.stage_security.new.mft
          (tables-disk g.D.Disk mid c.stage_security.new.mft c.in_ok-stage_security.ensures.disk))
          (stages-back g.D.Disk old mid both edit found.number c.stage_security.new.mft
          (λ told. giving-staged g.D.Disk most_of_value found.number (view g.D.Disk mid) mid c.stage_security.new.mft
          (gives-none g.D.Disk most_of_value found.number (view g.D.Disk mid) mid c.stage_security.new.mft
          (value-staged g.D.Disk found.number (names_of (records_of (view g.D.Disk mid)) found.number) mid c.stage_security.new.mft
          (c.in_ok-stage_security.ensures.places told)))));
    }

pub returns-clause-ends : goal.returns-clause-ends
returns-clause-ends g c = λ described whether.
    let old = c.args.mft.now in
    let found = c.in_ok-found.found in
    let mid = c.mark_place.new.mft in
    let one = reads-still g.D.Disk old c.find_securable.new.mft c.find_securable.ensures.reads.0 c.find_securable.ensures.reads.1 in
    let two = reads-still g.D.Disk c.find_securable.new.mft mid c.mark_place.ensures.reads.0 c.mark_place.ensures.reads.1 in
    let both = still-then g.D.Disk old c.find_securable.new.mft mid one two in
    ended g.D.Disk old mid both (setsec_edit c.args.path.now c.args.id described c.args.moment) found.number c.stage_security.new.mft
    (tables-disk g.D.Disk mid c.stage_security.new.mft c.in_ok-stage_security.ensures.disk) c.in_ok-stage_security.ensures.tables
    c.in_ok-stage_security.ensures.secures
    (λ told. giving-staged g.D.Disk most_of_value found.number (view g.D.Disk mid) mid c.stage_security.new.mft
    (gives-none g.D.Disk most_of_value found.number (view g.D.Disk mid) mid c.stage_security.new.mft
    (value-staged g.D.Disk found.number (names_of (records_of (view g.D.Disk mid)) found.number) mid c.stage_security.new.mft
    (c.in_ok-stage_security.ensures.places told))))
    c.args.mark.now (c.in_ok-found.ensures.answered described whether).is c.requires.can.clear.plain c.in_ok-place.place
    (placed-back g.D.Disk old c.find_securable.new.mft one c.args.mark.now c.in_ok-place.place c.in_ok-place.ensures.placed)
    c.finish.new.mft c.finish.ensures.mounted c.finish.ensures.goes_on c.finish.new.mark c.finish.result c.finish.ensures.done
    c.finish.ensures.fails c.finish.ensures.mark c.finish.ensures.device c.finish.ensures.most

-- what the count of faults did behind a call that failed, whatever it would have given
counts-err : (A B : Type 0) (why : Stop) (before after : ℕ) → Counts {A = A} (Err why) before after → Counts {A = B} (Err why) before after
counts-err A B (stop.No refused) before after counts = counts
counts-err A B stop.Device before after counts = counts

pub returns-in_err-found-clause-counts : goal.returns-in_err-found-clause-counts
returns-in_err-found-clause-counts g c =
    let its = described-by (view g.D.Disk c.args.mft.now) (λ told. (c.requires.can.in_use told).sound) c.args.id in
    rw (handed-on c.from_residual.result c.in_err-found.field-0.0 c.from_residual.ensures.1)
    (counts-err ℕ (Unit {0}) c.in_err-found.field-0.0 (faults_of g.D.Disk c.args.mft.now) (faults_of g.D.Disk c.find_securable.new.mft)
    (c.in_err-found.ensures.answered its.0 its.1.whether).counts)

pub returns-in_err-place-clause-counts : goal.returns-in_err-place-clause-counts
returns-in_err-place-clause-counts g c =
    let its = described-by (view g.D.Disk c.args.mft.now) (λ told. (c.requires.can.in_use told).sound) c.args.id in
    let found : faults_of g.D.Disk c.find_securable.new.mft ≡ faults_of g.D.Disk c.args.mft.now =
    (c.in_ok-found.ensures.answered its.0 its.1.whether).counts in
    rw (handed-on c.from_residual-in_err-place.result c.in_err-place.field-0.0 c.from_residual-in_err-place.ensures.1)
    (counts-err MarkPlace (Unit {0}) c.in_err-place.field-0.0 (faults_of g.D.Disk c.args.mft.now) (faults_of g.D.Disk c.mark_place.new.mft)
    (subst (λ n. Counts {A = MarkPlace} (Err c.in_err-place.field-0.0) n (faults_of g.D.Disk c.mark_place.new.mft)) found
    c.in_err-place.ensures.counts))

pub returns-in_err-stage_security-clause-counts : goal.returns-in_err-stage_security-clause-counts
returns-in_err-stage_security-clause-counts g c =
    let its = described-by (view g.D.Disk c.args.mft.now) (λ told. (c.requires.can.in_use told).sound) c.args.id in
    let placed : faults_of g.D.Disk c.mark_place.new.mft ≡ faults_of g.D.Disk c.args.mft.now =
    c.in_ok-place.ensures.counts ∙ (c.in_ok-found.ensures.answered its.0 its.1.whether).counts in
    rw (handed-on c.from_residual-in_err-stage_security.result c.in_err-stage_security.field-0.0
    c.from_residual-in_err-stage_security.ensures.1)
    (subst (λ n. Counts {A = Unit {0}} (Err c.in_err-stage_security.field-0.0) n (faults_of g.D.Disk c.stage_security.new.mft)) placed
    c.in_err-stage_security.ensures.counts)

pub returns-clause-goes_on : goal.returns-clause-goes_on
returns-clause-goes_on g c =
    let old = c.args.mft.now in
    let mid = c.mark_place.new.mft in
    let its = described-by (view g.D.Disk old) (λ told. (c.requires.can.in_use told).sound) c.args.id in
    let one = reads-still g.D.Disk old c.find_securable.new.mft c.find_securable.ensures.reads.0 c.find_securable.ensures.reads.1 in
    let two = reads-still g.D.Disk c.find_securable.new.mft mid c.mark_place.ensures.reads.0 c.mark_place.ensures.reads.1 in
    let keeps = all-keeps g.D.Disk old mid (still-then g.D.Disk old c.find_securable.new.mft mid one two) c.stage_security.new.mft
    (tables-disk g.D.Disk mid c.stage_security.new.mft c.in_ok-stage_security.ensures.disk) in
    GoesOn-then g.D.Disk (stage_of g.D.Disk old) (stage_of g.D.Disk c.stage_security.new.mft) (stage_of g.D.Disk c.finish.new.mft)
    (c.in_ok-stage_security.ensures.counts ∙ c.in_ok-place.ensures.counts ∙ (c.in_ok-found.ensures.answered its.0 its.1.whether).counts)
    keeps.goes_on c.finish.ensures.goes_on

pub returns-clause-counts : goal.returns-clause-counts
returns-clause-counts g c =
    let its = described-by (view g.D.Disk c.args.mft.now) (λ told. (c.requires.can.in_use told).sound) c.args.id in
    subst (λ n. Counts {A = Unit {0}} c.finish.result n (faults_of g.D.Disk c.finish.new.mft))
    (c.in_ok-stage_security.ensures.counts ∙ c.in_ok-place.ensures.counts ∙ (c.in_ok-found.ensures.answered its.0 its.1.whether).counts)
    c.finish.ensures.counts
