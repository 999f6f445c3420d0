use Rattle.std.proofs.Common.{Bool, Ok, Err, subst}
use Rattle.mft_table.specs.Mft.{view}
use Rattle.file_room.specs.Answered.{Finds}
use Rattle.file_room.proofs.GivesLaws.{handed-on}
use Rattle.view_index.specs.Security.{TellsWhether}
use Rattle.tree_edit.specs.Securable.{DecidesSecure}
use Rattle.tree_edit.proofs.FoundOver.{image-of, mounted-own}
use Rattle.tree_edit.proofs.SecureFound.{decides-mid, described-failed, not-described, reads-then, secure-found, secure-refused}
use Rattle.tree_edit.proofs.securable.find_securable.Goals as goal

pub returns-in_err-is_described-clause-answered : goal.returns-in_err-is_described-clause-answered
returns-in_err-is_described-clause-answered g c = λ described whether.
    let e = c.in_ok-reached.ensures in
    rw (handed-on c.from_residual-in_err-is_described.result c.in_err-is_described.field-0.0 c.from_residual-in_err-is_described.ensures.1)
    (described-failed g.D.Disk c.args.mft.now c.resolve.new.mft c.is_described.new.mft c.args.path.now c.args.id c.in_ok-reached.reached
    e.answered e.number described whether c.in_err-is_described.field-0.0 c.in_err-is_described.ensures)

pub returns-in_err-is_described-clause-reads : goal.returns-in_err-is_described-clause-reads
returns-in_err-is_described-clause-reads g c =
    let first = c.in_ok-reached.ensures.answered in
    let next = c.is_described.ensures in
    reads-then g.D.Disk c.args.mft.now c.resolve.new.mft c.is_described.new.mft first.reads next.reads first.only next.only

pub returns-then-not-branch-clause-answered : goal.returns-then-not-branch-clause-answered
returns-then-not-branch-clause-answered g c = λ described whether.
    let e = c.in_ok-reached.ensures in
    not-described g.D.Disk c.args.mft.now c.resolve.new.mft c.is_described.new.mft c.args.path.now c.args.id c.in_ok-reached.reached
    e.answered e.number described whether
    (subst (λ (b : Bool). Finds g.D.Disk c.resolve.new.mft c.is_described.new.mft (λ v there. TellsWhether v c.args.id there) (Ok b))
    c.if-not-branch.true c.in_ok-is_described.ensures)

pub returns-then-not-branch-clause-reads : goal.returns-then-not-branch-clause-reads
returns-then-not-branch-clause-reads g c =
    let first = c.in_ok-reached.ensures.answered in
    let next = c.is_described.ensures in
    reads-then g.D.Disk c.args.mft.now c.resolve.new.mft c.is_described.new.mft first.reads next.reads first.only next.only

pub returns-in-Ok-clause-answered : goal.returns-in-Ok-clause-answered
returns-in-Ok-clause-answered g c = λ described whether.
    let e = c.in_ok-reached.ensures in
    let held = c.in_ok-reached.reached.held in
    secure-found g.D.Disk c.args.mft.now c.resolve.new.mft c.is_described.new.mft c.args.path.now c.args.id c.in_ok-reached.reached
    e.answered e.number described whether
    (subst (λ (b : Bool). Finds g.D.Disk c.resolve.new.mft c.is_described.new.mft (λ v there. TellsWhether v c.args.id there) (Ok b))
    c.if-not-branch.false c.in_ok-is_described.ensures)
    c.in-Ok.found
    (decides-mid g.D.Disk c.args.mft.now c.resolve.new.mft c.is_described.new.mft e.answered.reads c.is_described.ensures.reads
    c.requires.volume e.answered.only c.is_described.ensures.only c.mounted.result.now c.mounted.ensures held e.held
    (λ v. DecidesSecure v held (Ok c.in-Ok.found)) c.in-Ok.ensures.decides)

pub returns-in-Ok-clause-reads : goal.returns-in-Ok-clause-reads
returns-in-Ok-clause-reads g c =
    let first = c.in_ok-reached.ensures.answered in
    let next = c.is_described.ensures in
    reads-then g.D.Disk c.args.mft.now c.resolve.new.mft c.is_described.new.mft first.reads next.reads first.only next.only

pub returns-in-Ok-clause-can : goal.returns-in-Ok-clause-can
returns-in-Ok-clause-can g c = λ told.
    let old = c.args.mft.now in
    let bytes = image-of g.D.Disk old c.requires.image told in
    let first = c.in_ok-reached.ensures.answered in
    let next = c.is_described.ensures in
    let both = reads-then g.D.Disk old c.resolve.new.mft c.is_described.new.mft first.reads next.reads first.only next.only in
    (c.in-Ok.ensures.decides (view g.D.Disk old) (mounted-own g.D.Disk old c.is_described.new.mft c.requires.volume c.mounted.result.now
    c.mounted.ensures both.0 both.1 told) (c.requires.volume told).sound (c.in_ok-reached.ensures.held told)).2 bytes.0 bytes.1

pub returns-clause-answered : goal.returns-clause-answered
returns-clause-answered g c = λ described whether.
    let e = c.in_ok-reached.ensures in
    let held = c.in_ok-reached.reached.held in
    secure-refused g.D.Disk c.args.mft.now c.resolve.new.mft c.is_described.new.mft c.args.path.now c.args.id c.in_ok-reached.reached
    e.answered e.number described whether
    (subst (λ (b : Bool). Finds g.D.Disk c.resolve.new.mft c.is_described.new.mft (λ v there. TellsWhether v c.args.id there) (Ok b))
    c.if-not-branch.false c.in_ok-is_described.ensures)
    c.in-Err.refused
    (decides-mid g.D.Disk c.args.mft.now c.resolve.new.mft c.is_described.new.mft e.answered.reads c.is_described.ensures.reads
    c.requires.volume e.answered.only c.is_described.ensures.only c.mounted.result.now c.mounted.ensures held e.held
    (λ v. DecidesSecure v held (Err c.in-Err.refused)) c.in-Err.ensures.decides)

pub returns-clause-reads : goal.returns-clause-reads
returns-clause-reads g c =
    let first = c.in_ok-reached.ensures.answered in
    let next = c.is_described.ensures in
    reads-then g.D.Disk c.args.mft.now c.resolve.new.mft c.is_described.new.mft first.reads next.reads first.only next.only
