use Rattle.file_clauses.proofs.extents.Extent.new.Goals as goal

pub returns : goal.returns
returns c = λ n. let held = c.in_ok-held_by.ensures n in cc (c.kind.ensures, c.name.ensures, c.flags.ensures)
