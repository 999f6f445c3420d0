use Rattle.std.proofs.Common.{◌≡◌, ◌∷◌, ◌+◌, List, ℕ, drop, get_or, length, ◌<◌, sym, ap, ◌∙◌, subst}
use Rattle.std.proofs.lemmas.List.{at_drop_more, drop_all}
use Rattle.ntfs_def.specs.declared.records.TheConstants.{ROOT}
use Rattle.mft_table.specs.Mft.{view}
use Rattle.tree_read.proofs.GivesLaws.{handed-on, in-use-kept, told-kept}
use Rattle.tree_read.proofs.KindLaws.{directory-file}
use Rattle.tree_read.proofs.PathSteps.{IsWalked, walk-begins, walk-ends, walk-enters, walk-stops}
use Rattle.tree_read.proofs.WalkLaws.{root-shown}
use Rattle.tree_read.specs.Walks.{IsDirectoryHeld}
use Rattle.tree_read.proofs.walk.walk_down.Goals as goal

pub load_file-requires-clause-file : goal.load_file-requires-clause-file
load_file-requires-clause-file g c = λ told.
    let volume = view g.D.Disk c.args.mft.now in
    directory-file volume ROOT (root-shown volume (c.requires.volume told).sound).directory

pub names-init : goal.names-init
names-init g c =
    walk-begins g.D.Disk c.args.names.now c.args.mft.now c.load_file.new.mft c.in_ok-dir.dir c.requires.volume c.in_ok-dir.ensures.number
    c.in_ok-dir.ensures.found

-- the walk, with the next name told apart
walked-next : (P : List (List ℕ) → Type 0) (rest : List (List ℕ)) (k : ℕ) (next : List ℕ) → k < length rest → next ≡ get_or rest k next
    → P (drop k rest) → P (next ∷ drop (k + 1) rest)
walked-next P rest k next inside is walked =
    subst P (at_drop_more (λ xs. xs) rest k next inside ∙ ap (λ n. n ∷ drop (k + 1) rest) (sym is)) walked

pub returns-in_err-dir-2-clause-answered : goal.returns-in_err-dir-2-clause-answered
returns-in_err-dir-2-clause-answered g c =
    let names = c.args.names.now in let k = c.names.name-index in let name = c.name-item.result in
    rw (handed-on c.from_residual-in_err-dir-2.result c.in_err-dir-2.field-0.0 c.from_residual-in_err-dir-2.ensures.1)
    (walk-stops g.D.Disk names c.args.mft.now c.names.mft c.pass.new.mft c.names.dir name (drop (k + 1) names) c.in_err-dir-2.field-0.0
    (walked-next (IsWalked g.D.Disk c.args.mft.now c.names.mft names c.names.dir) names k name c.names-test.true c.name-item.is
    c.names.invariant)
    c.in_err-dir-2.ensures.answered)

pub names-preserved : goal.names-preserved
names-preserved g c =
    let names = c.args.names.now in let k = c.names.name-index in let name = c.name-item.result in
    walk-enters g.D.Disk names c.args.mft.now c.names.mft c.pass.new.mft c.names.dir name (drop (k + 1) names) c.in_ok-dir-2.dir
    (walked-next (IsWalked g.D.Disk c.args.mft.now c.names.mft names c.names.dir) names k name c.names-test.true c.name-item.is
    c.names.invariant)
    c.in_ok-dir-2.ensures.answered c.in_ok-dir-2.ensures.held

pub pass-requires-clause-volume : goal.pass-requires-clause-volume
pass-requires-clause-volume g c = in-use-kept c.names.invariant.only c.requires.volume

pub pass-requires-clause-directory : goal.pass-requires-clause-directory
pass-requires-clause-directory g c =
    let walked = c.names.invariant in
    told-kept (λ volume. IsDirectoryHeld volume c.names.dir) walked.only (λ told. (walked.is told).held)

pub returns-clause-answered : goal.returns-clause-answered
returns-clause-answered g c =
    walk-ends g.D.Disk c.args.names.now c.args.mft.now c.names.mft c.names.dir
    (subst (IsWalked g.D.Disk c.args.mft.now c.names.mft c.args.names.now c.names.dir)
    (drop_all c.names.name-index c.args.names.now c.names-test.false) c.names.invariant)

pub returns-clause-held : goal.returns-clause-held
returns-clause-held g c = λ told. (c.names.invariant.is told).held
