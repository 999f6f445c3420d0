use Rattle.std.proofs.Common.{inl, sym, ◌∙◌}
use Rattle.tree_edit.proofs.StreamToWrite.{there-directory, there-packed, there-plain}
use Rattle.tree_edit.proofs.writable.plain.Goals as goal

pub returns-then-is_of_directory-clause-found : goal.returns-then-is_of_directory-clause-found
returns-then-is_of_directory-clause-found c = λ view n is.
    inl (there-directory view c.args.held.now n c.args.name.now c.args.found is (sym c.is_of_directory.ensures ∙ c.if-is_of_directory.true))

pub returns-then-found-clause-found : goal.returns-then-found-clause-found
returns-then-found-clause-found c = λ view n is.
    inl (there-packed view c.args.held.now n c.args.name.now c.args.found is (sym c.is_of_directory.ensures ∙ c.if-is_of_directory.false)
    c.if-found.true)

pub returns-clause-found : goal.returns-clause-found
returns-clause-found c = λ view n is.
    there-plain view c.args.held.now n c.args.name.now c.args.found is (sym c.is_of_directory.ensures ∙ c.if-is_of_directory.false)
    c.if-found.false
