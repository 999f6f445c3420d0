use Rattle.std.specs.Io.KnownBytes.{Keeps}
use Rattle.vol_disk.proofs.standard.write_some.Given as goal

-- the attempts until now wrote nothing
abbrev pub invariant-loop : goal.invariant-loop
invariant-loop g l = Keeps (g.W.Write.contents l.fn.output) (g.W.Write.contents l.output)
