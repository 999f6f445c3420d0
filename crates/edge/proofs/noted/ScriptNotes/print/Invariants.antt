use Rattle.std.proofs.Common.{◌≡◌, ◌+◌, ◌≤◌, length, IsSome}
use Rattle.edge.specs.Noted.{all_printed, printed_of}
use Rattle.edge.proofs.noted.ScriptNotes.print.Given as goal

abbrev pub invariant-loop : goal.invariant-loop
invariant-loop l =
    (all_printed (printed_of l.self) l.rest ≡ all_printed (printed_of l.fn.self) l.bytes)
    × (length l.rest + l.counter ≤ length l.bytes)
    × (IsSome l.fn.self.first → l.self.first ≡ l.fn.self.first)
