use Rattle.std.proofs.Common.{sym}
use Rattle.file_room.specs.Nodes.{number_of}
use Rattle.file_room.proofs.AnsweredLaws.{same_wanted, stops}
use Rattle.file_room.proofs.GivesLaws.{handed-on}
use Rattle.mft_table.specs.Mft.{view}
use Rattle.tree_edit.specs.Alone.{asked_to_drop, if_room, drop_wanted}
use Rattle.tree_edit.specs.Decided.{IsDroppableSo, drop_found}
use Rattle.tree_edit.proofs.AskedLaws.{asked-known, asked-on, asked-stop, drop-last}
use Rattle.tree_edit.proofs.WayLaws.{to-drop}
use Rattle.tree_edit.proofs.alone.find_to_drop.Goals as goal

pub returns-in_err-found-clause-answered : goal.returns-in_err-found-clause-answered
returns-in_err-found-clause-answered g c =
    let a = c.args in
    let name = a.name.now in
    let why = c.in_err-found.field-0.0 in
    rw (handed-on c.from_residual.result why c.from_residual.ensures.1)
    (same_wanted g.D.Disk _ (λ v. drop_wanted v a.opens.now a.path.now name) _
    (λ v. sym (drop-last v name a.opens.now a.path.now))
    (stops g.D.Disk (λ v. drop_found v a.opens.now a.path.now name) (λ v f. if_room (asked_to_drop v name f) f) why
    c.in_err-found.ensures.answered))

pub returns-in_err-ask_to_drop-clause-answered : goal.returns-in_err-ask_to_drop-clause-answered
returns-in_err-ask_to_drop-clause-answered g c =
    let a = c.args in
    let name = a.name.now in
    let found = c.in_ok-found.found in
    let why = c.in_err-ask_to_drop.field-0.0 in
    rw (handed-on c.from_residual-in_err-ask_to_drop.result why c.from_residual-in_err-ask_to_drop.ensures.1)
    (asked-stop g.D.Disk (λ v. drop_wanted v a.opens.now a.path.now name) (λ v. drop_found v a.opens.now a.path.now name)
    (λ v f. asked_to_drop v name f) (λ v. drop-last v name a.opens.now a.path.now) (number_of found.held)
    (λ v. IsDroppableSo v found name) c.in_ok-found.ensures.answered c.in_ok-found.ensures.can why
    (c.in_err-ask_to_drop.ensures.asked name))

pub returns-clause-answered : goal.returns-clause-answered
returns-clause-answered g c =
    let a = c.args in
    let name = a.name.now in
    let found = c.in_ok-found.found in
    asked-on g.D.Disk (λ v. drop_wanted v a.opens.now a.path.now name) (λ v. drop_found v a.opens.now a.path.now name)
    (λ v f. asked_to_drop v name f) (λ v. drop-last v name a.opens.now a.path.now) (number_of found.held)
    (λ v. IsDroppableSo v found name) c.in_ok-found.ensures.answered c.in_ok-found.ensures.can (c.in_ok-ask_to_drop.ensures.asked name)

pub returns-clause-can : goal.returns-clause-can
returns-clause-can g c = λ told.
    let a = c.args in
    let name = a.name.now in
    let found = c.in_ok-found.found in
    let known = c.in_ok-found.ensures.can told in
    to-drop (view g.D.Disk a.mft.now) found name known
    (asked-known g.D.Disk (λ v. drop_found v a.opens.now a.path.now name) (λ v f. asked_to_drop v name f)
    (number_of found.held) (λ v. IsDroppableSo v found name) c.in_ok-found.ensures.answered (c.in_ok-ask_to_drop.ensures.asked name)
    told known)
