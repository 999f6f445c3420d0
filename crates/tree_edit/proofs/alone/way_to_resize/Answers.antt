use Rattle.std.proofs.Common.{sym, ◌∙◌}
use Rattle.std.proofs.lemmas.Bool.{or_from}
use Rattle.file_room.specs.Nodes.{number_of}
use Rattle.tree_edit.specs.Alone.{can_end, can_end_there, can_move_to, can_resize}
use Rattle.tree_edit.proofs.WriteFound.{mounts-own}
use Rattle.tree_edit.proofs.alone.way_to_resize.Goals as goal

pub returns-then-branch-clause-way : goal.returns-then-branch-clause-way
returns-then-branch-clause-way c = λ view mounts sound n name is.
    sym (c.in_ok-is_resizable.ensures.is view (mounts-own view c.args.mounted.now c.args.cluster_bytes mounts) sound n name is)
    ∙ c.if-branch.true

pub returns-then-branch-2-clause-way : goal.returns-then-branch-2-clause-way
returns-then-branch-2-clause-way c = λ view mounts sound n name is.
    sym (c.in_ok-can_end.ensures.is view mounts sound n name is) ∙ c.if-branch-2.true

pub returns-then-branch-3-clause-way : goal.returns-then-branch-3-clause-way
returns-then-branch-3-clause-way c = λ view mounts sound n name is.
    sym (c.in_ok-is_movable_to.ensures.is view mounts sound n name is) ∙ c.if-branch-3.true

pub returns-clause-way : goal.returns-clause-way
returns-clause-way c = λ view mounts sound n name is.
    let a = c.args in
    let f = number_of a.held.now in
    or_from (can_resize view name a.size f) (can_end_there view name a.size f)
    (sym (c.in_ok-is_resizable.ensures.is view (mounts-own view a.mounted.now a.cluster_bytes mounts) sound n name is) ∙ c.if-branch.false)
    (or_from (can_end view name a.size f) (can_move_to view name a.size f)
    (sym (c.in_ok-can_end.ensures.is view mounts sound n name is) ∙ c.if-branch-2.false)
    (sym (c.in_ok-is_movable_to.ensures.is view mounts sound n name is) ∙ c.if-branch-3.false))
