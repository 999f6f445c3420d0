use Rattle.std.proofs.Common.{◌≡◌, ◌&&◌, ℕ, List, Bool, true, IfOk, Ok, not, subst}
use Rattle.volume_def.specs.View.{VolumeView}
use Rattle.mft_table.specs.declared.mounted.Mounted.{Mounted}
use Rattle.tree_model.specs.Facts.{is_whole_table}
use Rattle.tree_model.specs.Reading.{read}
use Rattle.tree_model.specs.Staging.{cannot_edit}
use Rattle.tree_model.specs.Ways.{has_name_room, has_record}
use Rattle.tree_edit.specs.Answered.{Finds}
use Rattle.tree_edit.specs.Nodes.{number_of}
use Rattle.make_places.specs.Makes.{HasFreeRecord, cannot_make}
use Rattle.make_places.proofs.FoundBoth.{found-as, then-second}
use Rattle.make_places.proofs.PlacedLaws.{asked-so}
use Rattle.make_places.proofs.make.can_make.Goals as goal

abbrev edits : ℕ → VolumeView → Bool
edits dir v = not (cannot_edit (is_whole_table v) (read v) 0) && not (cannot_edit (is_whole_table v) (read v) dir)

abbrev has : ℕ → List ℕ → VolumeView → Bool
has dir name v = has_name_room v dir name && has_record v

pub returns-clause-can : goal.returns-clause-can
returns-clause-can g c =
    let name = c.args.name.now in
    let dir = number_of c.args.dir.now in
    found-as (λ v. edits dir v && has dir name v) (λ v. not (cannot_make v dir name)) c.has_both.result (λ v. asked-so v dir name)
    (then-second g.D.Disk (edits dir) (has dir name) c.has_both.result
    (subst (λ (b : Bool). Finds g.D.Disk c.args.mft.now c.can_edit_both.new.mft (λ v x. x ≡ edits dir v) (Ok b))
    c.if-not-branch.false c.in_ok-can_edit_both.ensures.both)
    c.has_both.ensures.both)

pub returns-clause-free : goal.returns-clause-free
returns-clause-free g c =
    subst (λ (m : Mounted). IfOk c.has_both.result (λ (can : Bool). can ≡ true → HasFreeRecord m))
    c.in_ok-can_edit_both.ensures.both.only.mounted c.has_both.ensures.free
