use Rattle.std.proofs.Common.{◌≡◌, ◌≤◌, ◌<◌, Bool, ℕ, All, List, Ok, Err, not, length, subst}
use Rattle.std.proofs.lemmas.List.Elements.{All-contains}
use Rattle.mft_table.specs.declared.mounted.Mounted.{Mounted}
use Rattle.mft_table.specs.Mft.{view}
use Rattle.tree_edit.specs.Answered.{Finds}
use Rattle.tree_edit.specs.Standings.{number_within}
use Rattle.tree_edit.proofs.GivesLaws.{handed-on}
use Rattle.name_places.specs.Places.{place_of}
use Rattle.make_places.specs.Makes.{HasFreeRecord, cannot_make}
use Rattle.make_places.proofs.PlacedLaws.{can-so, can-told, cannot-so, image-of, makeable, short-name, undecided}
use Rattle.make_places.proofs.find.find_makeable.Goals as goal

pub returns-in_err-can_make-clause-answered : goal.returns-in_err-can_make-clause-answered
returns-in_err-can_make-clause-answered g c =
    let place = c.in_ok-place.place in
    let why = c.in_err-can_make.field-0.0 in
    rw (handed-on c.from_residual-in_err-can_make.result why c.from_residual-in_err-can_make.ensures.1)
    (undecided g.D.Disk c.args.path.now (place_of place) c.in_ok-place.ensures.answered why
    (subst (λ (us : List ℕ). Finds g.D.Disk c.find_place.new.mft c.can_make.new.mft
    (λ v (b : Bool). b ≡ not (cannot_make v (number_within place.standing) us)) (Err why)) c.as_slice.ensures
    c.in_err-can_make.ensures.can))

pub returns-then-not-branch-clause-answered : goal.returns-then-not-branch-clause-answered
returns-then-not-branch-clause-answered g c =
    let place = c.in_ok-place.place in
    cannot-so g.D.Disk c.args.path.now (place_of place) c.in_ok-place.ensures.answered
    (subst (λ (b : Bool). Finds g.D.Disk c.find_place.new.mft c.can_make.new.mft
    (λ v (x : Bool). x ≡ not (cannot_make v (number_within place.standing) place.name.now)) (Ok b)) c.if-not-branch.true
    (subst (λ (us : List ℕ). Finds g.D.Disk c.find_place.new.mft c.can_make.new.mft
    (λ v (b : Bool). b ≡ not (cannot_make v (number_within place.standing) us)) (Ok c.in_ok-can_make.field-0)) c.as_slice.ensures
    c.in_ok-can_make.ensures.can))

pub returns-clause-answered : goal.returns-clause-answered
returns-clause-answered g c =
    let place = c.in_ok-place.place in
    can-so g.D.Disk c.args.path.now (place_of place) c.in_ok-place.ensures.answered
    (subst (λ (b : Bool). Finds g.D.Disk c.find_place.new.mft c.can_make.new.mft
    (λ v (x : Bool). x ≡ not (cannot_make v (number_within place.standing) place.name.now)) (Ok b)) c.if-not-branch.false
    (subst (λ (us : List ℕ). Finds g.D.Disk c.find_place.new.mft c.can_make.new.mft
    (λ v (b : Bool). b ≡ not (cannot_make v (number_within place.standing) us)) (Ok c.in_ok-can_make.field-0)) c.as_slice.ensures
    c.in_ok-can_make.ensures.can))

pub returns-clause-can : goal.returns-clause-can
returns-clause-can g c = λ told.
    let place = c.in_ok-place.place in
    let old = c.args.mft.now in
    let bytes = image-of g.D.Disk old c.requires.image told in
    let t = can-told g.D.Disk c.args.path.now (place_of place) c.in_ok-place.ensures.answered
    (subst (λ (b : Bool). Finds g.D.Disk c.find_place.new.mft c.can_make.new.mft
    (λ v (x : Bool). x ≡ not (cannot_make v (number_within place.standing) place.name.now)) (Ok b)) c.if-not-branch.false
    (subst (λ (us : List ℕ). Finds g.D.Disk c.find_place.new.mft c.can_make.new.mft
    (λ v (b : Bool). b ≡ not (cannot_make v (number_within place.standing) us)) (Ok c.in_ok-can_make.field-0)) c.as_slice.ensures
    c.in_ok-can_make.ensures.can)) told in
    makeable bytes.0 (view g.D.Disk old) bytes.1 (c.requires.volume told).sound told place (c.in_ok-place.ensures.standing told)
    c.args.path.now t.0 t.1
    (All-contains (λ (name : List ℕ). 1 ≤ length name) c.args.path.now place.name.now c.requires.named c.in_ok-place.ensures.among)
    (short-name place.name.now c.in_ok-place.ensures.good)
    (subst (λ (us : List ℕ). All (λ unit. unit < 65536) us) c.as_slice-2.ensures c.look_at_units.ensures)

pub returns-clause-free : goal.returns-clause-free
returns-clause-free g c =
    subst (λ (m : Mounted). HasFreeRecord m) c.in_ok-place.ensures.answered.only.mounted
    (c.in_ok-can_make.ensures.free c.if-not-branch.false)
