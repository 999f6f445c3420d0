-- How many records are unknown.
use Rattle.std.proofs.Common.{Bool, true, false}
use Rattle.volume_clauses.specs.declared.marks.Mark.{Mark}
use Rattle.volume_clauses.specs.declared.marks.Mark.TheVariants.{Unknown, Walking, Found, Lost}

abbrev pub unknown : Mark → Bool
unknown Unknown = true
unknown Walking = false
unknown Found = false
unknown Lost = false
