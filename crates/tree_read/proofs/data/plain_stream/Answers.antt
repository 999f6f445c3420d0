use Rattle.std.proofs.Common.{inl, sym, ◌∙◌}
use Rattle.tree_read.proofs.StreamLaws.{finds-stream, refused-directory}
use Rattle.tree_read.proofs.data.plain_stream.Goals as goal

pub returns-then-is_of_directory-clause-found : goal.returns-then-is_of_directory-clause-found
returns-then-is_of_directory-clause-found c = λ view n case.
    inl (refused-directory view c.args.held.now n c.args.name.now (sym c.is_of_directory.ensures ∙ c.if-is_of_directory.true))

pub returns-clause-found : goal.returns-clause-found
returns-clause-found c = λ view n case.
    finds-stream view c.args.held.now n c.args.name.now c.plain_content.result (sym c.is_of_directory.ensures ∙ c.if-is_of_directory.false)
    (c.plain_content.ensures.found view n case)
