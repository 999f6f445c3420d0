use Rattle.index_tree.proofs.removal.+give_back.Given as goal

abbrev pub decreases-give_back : goal.decreases-give_back
decreases-give_back g l = l.level
