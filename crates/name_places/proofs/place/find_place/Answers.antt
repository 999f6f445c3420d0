use Rattle.std.proofs.Common.{◌∷◌, ℕ, [], List, ap, subst, sym, ◌∙◌}
use Rattle.std.proofs.lemmas.List.Elements.{Contains-append_right}
use Rattle.list_laws.proofs.MemberLaws.{Contains-head}
use Rattle.std.specs.List.{Contains}
use Rattle.tree_model.specs.Cases.{is_bad_name}
use Rattle.tree_read.specs.Standings.{number_within}
use Rattle.tree_read.proofs.GivesLaws.{handed-on}
use Rattle.name_places.proofs.PlaceLaws.{bad-refused, not-there, place-entered, place-unentered, root-refused, there-failed, there-refused}
use Rattle.name_places.proofs.place.find_place.Goals as goal

pub returns-in_default-clause-answered : goal.returns-in_default-clause-answered
returns-in_default-clause-answered g c =
    root-refused g.D.Disk c.args.mft.now c.args.path.now (let e = c.as_slice.ensures in let n = c.in_default.ensures.cases in rw (sym e) n)

pub returns-in_err-standing-clause-answered : goal.returns-in_err-standing-clause-answered
returns-in_err-standing-clause-answered g c =
    rw (handed-on c.from_residual.result c.in_err-standing.field-0.0 c.from_residual.ensures.1)
    (place-unentered g.D.Disk c.args.mft.now c.args.path.now c.in-Some.names.now c.in-Some.name.now
    (sym c.as_slice.ensures ∙ c.in-Some.ensures.cases.0) c.enter.new.mft c.in_err-standing.field-0.0 c.in_err-standing.ensures.answered)

pub returns-then-is_bad_name-clause-answered : goal.returns-then-is_bad_name-clause-answered
returns-then-is_bad_name-clause-answered g c =
    place-entered g.D.Disk c.args.mft.now c.args.path.now c.in-Some.names.now c.in-Some.name.now
    (sym c.as_slice.ensures ∙ c.in-Some.ensures.cases.0) c.enter.new.mft c.enter.new.mft (number_within c.in_ok-standing.standing) _
    c.in_ok-standing.ensures.answered
    (bad-refused g.D.Disk c.enter.new.mft c.in-Some.name.now (number_within c.in_ok-standing.standing)
    (ap is_bad_name (sym c.as_slice-2.ensures) ∙ sym c.is_bad_name.ensures ∙ c.if-is_bad_name.true))

pub returns-in_err-is_there-clause-answered : goal.returns-in_err-is_there-clause-answered
returns-in_err-is_there-clause-answered g c =
    rw (handed-on c.from_residual-in_err-is_there.result c.in_err-is_there.field-0.0 c.from_residual-in_err-is_there.ensures.1)
    (place-entered g.D.Disk c.args.mft.now c.args.path.now c.in-Some.names.now c.in-Some.name.now
    (sym c.as_slice.ensures ∙ c.in-Some.ensures.cases.0) c.enter.new.mft c.is_there.new.mft (number_within c.in_ok-standing.standing) _
    c.in_ok-standing.ensures.answered
    (there-failed g.D.Disk c.in-Some.name.now (number_within c.in_ok-standing.standing)
    (ap is_bad_name (sym c.as_slice-2.ensures) ∙ sym c.is_bad_name.ensures ∙ c.if-is_bad_name.false) c.enter.new.mft c.is_there.new.mft
    c.in_err-is_there.field-0.0 c.in_err-is_there.ensures))

pub returns-then-branch-clause-answered : goal.returns-then-branch-clause-answered
returns-then-branch-clause-answered g c =
    place-entered g.D.Disk c.args.mft.now c.args.path.now c.in-Some.names.now c.in-Some.name.now
    (sym c.as_slice.ensures ∙ c.in-Some.ensures.cases.0) c.enter.new.mft c.is_there.new.mft (number_within c.in_ok-standing.standing) _
    c.in_ok-standing.ensures.answered
    (there-refused g.D.Disk c.in-Some.name.now (number_within c.in_ok-standing.standing)
    (ap is_bad_name (sym c.as_slice-2.ensures) ∙ sym c.is_bad_name.ensures ∙ c.if-is_bad_name.false) c.enter.new.mft c.is_there.new.mft
    (let b = c.if-branch.true in rw (sym b) c.in_ok-is_there.ensures))

pub returns-clause-answered : goal.returns-clause-answered
returns-clause-answered g c =
    place-entered g.D.Disk c.args.mft.now c.args.path.now c.in-Some.names.now c.in-Some.name.now
    (sym c.as_slice.ensures ∙ c.in-Some.ensures.cases.0) c.enter.new.mft c.is_there.new.mft (number_within c.in_ok-standing.standing) _
    c.in_ok-standing.ensures.answered
    (not-there g.D.Disk c.in-Some.name.now (number_within c.in_ok-standing.standing)
    (ap is_bad_name (sym c.as_slice-2.ensures) ∙ sym c.is_bad_name.ensures ∙ c.if-is_bad_name.false) c.enter.new.mft c.is_there.new.mft
    (let b = c.if-branch.false in rw (sym b) c.in_ok-is_there.ensures))

pub returns-clause-among : goal.returns-clause-among
returns-clause-among g c =
    subst (λ (path : List (List ℕ)). Contains path c.in-Some.name.now) (sym (sym c.as_slice.ensures ∙ c.in-Some.ensures.cases.0))
    (Contains-append_right c.in-Some.names.now (c.in-Some.name.now ∷ []) c.in-Some.name.now (Contains-head c.in-Some.name.now []))

pub returns-clause-good : goal.returns-clause-good
returns-clause-good g c = ap is_bad_name (sym c.as_slice-2.ensures) ∙ sym c.is_bad_name.ensures ∙ c.if-is_bad_name.false
