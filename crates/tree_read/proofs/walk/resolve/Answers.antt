use Rattle.std.proofs.Common.{refl, sym, ◌∙◌}
use Rattle.ntfs_def.specs.declared.records.TheConstants.{ROOT}
use Rattle.volume_def.proofs.SoundLaws.{readable-sound}
use Rattle.mft_table.specs.Mft.{view}
use Rattle.tree_model.proofs.ResolveLaws.{resolve-root}
use Rattle.tree_model.specs.Reading.{read}
use Rattle.tree_read.proofs.GivesLaws.{handed-on, tells}
use Rattle.tree_read.proofs.KindLaws.{directory-file}
use Rattle.tree_read.proofs.NodeLaws.{node-held}
use Rattle.tree_read.proofs.PathSteps.{path-node, path-reached, path-unentered}
use Rattle.tree_read.proofs.WalkLaws.{root-shown, shown-node}
use Rattle.tree_read.specs.Standings.{number_within}
use Rattle.tree_read.proofs.walk.resolve.Goals as goal

pub load_file-requires-clause-file : goal.load_file-requires-clause-file
load_file-requires-clause-file g c = λ told.
    let volume = view g.D.Disk c.args.mft.now in
    directory-file volume ROOT (root-shown volume (c.requires.volume told).sound).directory

pub returns-in_default-clause-answered : goal.returns-in_default-clause-answered
returns-in_default-clause-answered g c = tells c.in_ok-load_file.ensures.found refl (λ told is.
    resolve-root (read (view g.D.Disk c.args.mft.now)) c.args.path.now
    (let e = c.as_slice.ensures in let n = c.in_default.ensures.cases in rw (sym e) n))

pub returns-in_default-clause-held : goal.returns-in_default-clause-held
returns-in_default-clause-held g c = λ told.
    let volume = view g.D.Disk c.args.mft.now in
    let sound = (c.requires.volume told).sound in
    node-held volume ROOT c.in_ok-load_file.field-0 (readable-sound volume sound) (shown-node volume ROOT (root-shown volume sound))
    (c.in_ok-load_file.ensures.found.is told)

pub returns-in_err-standing-clause-answered : goal.returns-in_err-standing-clause-answered
returns-in_err-standing-clause-answered g c =
    rw (handed-on c.from_residual-in_err-standing.result c.in_err-standing.field-0.0 c.from_residual-in_err-standing.ensures.1)
    (path-unentered g.D.Disk c.args.mft.now c.args.path.now c.in-Some.names.now c.in-Some.name.now
    (sym c.as_slice.ensures ∙ c.in-Some.ensures.cases.0) c.enter.new.mft c.in_err-standing.field-0.0 c.in_err-standing.ensures.answered)

pub returns-clause-answered : goal.returns-clause-answered
returns-clause-answered g c =
    path-reached g.D.Disk c.args.mft.now c.args.path.now c.in-Some.names.now c.in-Some.name.now
    (sym c.as_slice.ensures ∙ c.in-Some.ensures.cases.0) c.enter.new.mft c.reach-reached.new.mft (number_within c.in_ok-standing.standing) _
    c.in_ok-standing.ensures.answered c.reach-reached.ensures.answered

pub returns-clause-held : goal.returns-clause-held
returns-clause-held g c =
    path-node g.D.Disk c.args.mft.now c.args.path.now c.in-Some.names.now c.in-Some.name.now
    (sym c.as_slice.ensures ∙ c.in-Some.ensures.cases.0) c.enter.new.mft c.reach-reached.new.mft (number_within c.in_ok-standing.standing)
    c.reach-reached.result c.requires.volume c.in_ok-standing.ensures.answered c.reach-reached.ensures.answered c.reach-reached.ensures.held
