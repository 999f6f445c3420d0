use Rattle.std.proofs.Common.{◌≡◌, ◌≤◌}
use Rattle.arrayvec.specs.ArrayVec.{array_vec_len}
use Rattle.edge.specs.Noted.{KeepsSlips}
use Rattle.edge.proofs.noted.ScriptNotes.end_command.Given as goal

abbrev pub invariant-loop : goal.invariant-loop
invariant-loop l = KeepsSlips l.fn.self l.self × (l.counter ≤ l.self.at) × (array_vec_len l.self.piece ≡ l.end)
