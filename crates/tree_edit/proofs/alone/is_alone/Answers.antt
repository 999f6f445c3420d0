use Rattle.std.proofs.Common.{◌&&◌, not, sym, ap, ◌∙◌}
use Rattle.tree_model.specs.Ways.{has_no_list}
use Rattle.file_room.specs.Nodes.{number_of}
use Rattle.tree_edit.proofs.ExtentFound.{list-held}
use Rattle.tree_edit.proofs.alone.is_alone.Goals as goal

pub returns-then-not-branch-clause-is : goal.returns-then-not-branch-clause-is
returns-then-not-branch-clause-is c = λ view mounts sound n name is.
    sym (ap (λ b. b && has_no_list view (number_of c.args.held.now))
    (sym (c.in_ok-is_value.ensures.is view mounts sound n name is) ∙ c.if-not-branch.true))

pub returns-clause-is : goal.returns-clause-is
returns-clause-is c = λ view mounts sound n name is.
    ap not (c.has_list.ensures ∙ list-held view c.args.held.now n)
    ∙ sym (ap (λ b. b && has_no_list view (number_of c.args.held.now))
    (sym (c.in_ok-is_value.ensures.is view mounts sound n name is) ∙ c.if-not-branch.false))
