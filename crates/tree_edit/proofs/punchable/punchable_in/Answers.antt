use Rattle.std.proofs.Common.{ap, inl, sym, ◌∙◌}
use Rattle.tree_edit.specs.Writable.{kept_from_writing}
use Rattle.tree_edit.proofs.FoundOver.{handed-on-no}
use Rattle.tree_edit.proofs.FoundPunch.{as-value, directory-refused, open-refused, punch-decided, range-refused, stream-refused}
use Rattle.tree_edit.proofs.punchable.punchable_in.Goals as goal

pub returns-then-is_of_directory-clause-decides : goal.returns-then-is_of_directory-clause-decides
returns-then-is_of_directory-clause-decides c = λ view mounts sound n.
    inl (directory-refused view c.args.held n c.args.name.now c.args.from c.args.len c.args.opens.now
    (sym c.is_of_directory.ensures ∙ c.if-is_of_directory.true))

pub returns-in_err-stream-clause-decides : goal.returns-in_err-stream-clause-decides
returns-in_err-stream-clause-decides c = λ view mounts sound n.
    rw (handed-on-no c.from_residual.result c.in_err-stream.field-0.0 c.from_residual.ensures.1)
    (stream-refused view c.args.held n c.args.name.now c.args.from c.args.len c.args.opens.now
    (sym c.is_of_directory.ensures ∙ c.if-is_of_directory.false) c.in_err-stream.field-0.0
    (c.in_err-stream.ensures.found view n mounts.case))

pub returns-then-is_wide-clause-decides : goal.returns-then-is_wide-clause-decides
returns-then-is_wide-clause-decides c = λ view mounts sound n.
    inl (range-refused view c.args.held n c.args.name.now c.args.from c.args.len c.args.opens.now
    (sym c.is_of_directory.ensures ∙ c.if-is_of_directory.false) c.in_ok-stream.stream (c.in_ok-stream.ensures.found view n mounts.case)
    (sym c.is_wide.ensures ∙ c.if-is_wide.true))

pub returns-in-Some-clause-decides : goal.returns-in-Some-clause-decides
returns-in-Some-clause-decides c = λ view mounts sound n.
    let kept = ap (kept_from_writing c.args.opens.now) (sym c.number.ensures) ∙ sym c.kept_from_writing.ensures ∙ c.in-Some.is in
    inl (open-refused view c.args.held n c.args.name.now c.args.from c.args.len c.args.opens.now
    (sym c.is_of_directory.ensures ∙ c.if-is_of_directory.false) c.in_ok-stream.stream (c.in_ok-stream.ensures.found view n mounts.case)
    c.in-Some.refused (sym c.is_wide.ensures ∙ c.if-is_wide.false) kept)

pub returns-clause-decides : goal.returns-clause-decides
returns-clause-decides c = λ view mounts sound n.
    let found = c.in_ok-stream.ensures.found view n mounts.case in
    let kept = ap (kept_from_writing c.args.opens.now) (sym c.number.ensures) ∙ sym c.kept_from_writing.ensures ∙ c.in_default.is in
    punch-decided view c.args.mounted.now c.args.held mounts sound n c.args.name.now c.in_ok-stream.stream found.0.is _ c.give_value.result
    (c.give_value.ensures.decides view mounts sound n c.args.name.now found.0.is) c.give_value.ensures.gives found.0
    (as-value view c.args.held n c.args.name.now c.args.from c.args.len c.args.opens.now
    (sym c.is_of_directory.ensures ∙ c.if-is_of_directory.false) c.in_ok-stream.stream found (sym c.is_wide.ensures
    ∙ c.if-is_wide.false) kept)
