use Rattle.file_changes.proofs.ChainedLaws.{Goes}
use Rattle.file_changes.proofs.refresh.refresh_links.Given as goal

-- the names so far were told anew, and those that are left can be
abbrev pub invariant-loop-link : goal.invariant-loop-link
invariant-loop-link g l = Goes g.D.Disk l.told l.links l.link-index l.fn.mft l.mft
