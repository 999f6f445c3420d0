use Rattle.index_puts.proofs.depth.+levels_below.Given as goal

abbrev pub decreases-levels_below : goal.decreases-levels_below
decreases-levels_below g l = l.most
