use Rattle.std.proofs.Common.{◌≡◌, Bool, true, IfOk, Ok, subst}
use Rattle.mft_table.specs.declared.mounted.Mounted.{Mounted}
use Rattle.tree_model.specs.Ways.{has_name_room, has_record}
use Rattle.tree_edit.specs.Answered.{Finds}
use Rattle.tree_edit.specs.Nodes.{number_of}
use Rattle.make_places.specs.Makes.{HasFreeRecord}
use Rattle.make_places.proofs.FoundBoth.{then-second}
use Rattle.make_places.proofs.make.has_both.Goals as goal

pub returns-clause-both : goal.returns-clause-both
returns-clause-both g c =
    let name = c.args.name.now in
    let dir = number_of c.args.dir.now in
    then-second g.D.Disk (λ v. has_name_room v dir name) has_record c.has_record.result
    (subst (λ (b : Bool).
    Finds g.D.Disk c.args.mft.now c.has_name_room.new.mft (λ v x. x ≡ has_name_room v dir name) (Ok b))
    c.if-not-branch.false c.in_ok-has_name_room.ensures)
    c.has_record.ensures.has

pub returns-clause-free : goal.returns-clause-free
returns-clause-free g c =
    subst (λ (m : Mounted). IfOk c.has_record.result (λ (has : Bool). has ≡ true → HasFreeRecord m))
    c.in_ok-has_name_room.ensures.only.mounted c.has_record.ensures.free
