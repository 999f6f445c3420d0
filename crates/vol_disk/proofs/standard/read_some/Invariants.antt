use Rattle.std.specs.Io.KnownBytes.{Keeps}
use Rattle.vol_disk.proofs.standard.read_some.Given as goal

-- the attempts until now read nothing
abbrev pub invariant-loop : goal.invariant-loop
invariant-loop g l = Keeps (g.R.Read.remaining l.fn.input) (g.R.Read.remaining l.input)
