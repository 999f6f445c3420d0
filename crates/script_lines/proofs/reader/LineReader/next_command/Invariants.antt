use Rattle.std.proofs.Common.{◌≡◌, ◌-◌, ◌≤◌, ◌^◌, ℕ, List}
use Rattle.script_lines.specs.Reading.{HasRead}
use Rattle.script_lines.proofs.reader.LineReader.next_command.Given as goal

abbrev pub invariant-lines : goal.invariant-lines
invariant-lines g l =
    let s = g.S.Source in
    record {
      quiet : s.faults l.source ≡ s.faults l.fn.source;
      later : l.fn.self.consumed ≤ l.self.consumed;
      read : (text : List ℕ) (lines : List (List ℕ)) → HasRead s text lines l.fn.self l.fn.source → HasRead s text lines l.self l.source;
    }

abbrev pub decreases-lines : goal.decreases-lines
decreases-lines g l = 2 ^ 30 - l.self.consumed
