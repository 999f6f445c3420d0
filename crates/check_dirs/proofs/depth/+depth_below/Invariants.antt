use Rattle.check_dirs.proofs.depth.+depth_below.Given as goal

abbrev pub decreases-depth_below : goal.decreases-depth_below
decreases-depth_below g l = l.level
