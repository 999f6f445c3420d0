use Rattle.std.proofs.Common.{◌≡◌, ◌-◌, ◌+◌, ◌≤◌, ◌^◌, ℕ, List, Some, false, vec_len}
use Rattle.script_lines.specs.Coming.{coming}
use Rattle.script_lines.proofs.Part.{Part}
use Rattle.script_lines.proofs.reader.LineReader.next_line.Given as goal

abbrev pub invariant-bytes : goal.invariant-bytes
invariant-bytes g l =
    let s = g.S.Source in
    record {
      open_before : l.fn.self.ended ≡ false;
      open_still : l.self.ended ≡ false;
      quiet : s.faults l.source ≡ s.faults l.fn.source;
      later : l.fn.self.consumed + vec_len l.line ≤ l.self.consumed;
      short : vec_len l.line ≤ 70001;
      part : (text : List ℕ) → coming s l.fn.self l.fn.source ≡ Some text
          → Part text l.line.items l.fn.self.consumed l.self.consumed (coming s l.self l.source);
    }

abbrev pub decreases-bytes : goal.decreases-bytes
decreases-bytes g l = 2 ^ 30 - l.self.consumed
