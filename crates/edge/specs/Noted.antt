-- What is noted of a script while it runs, and what a source and a sink stand over of which is noted what goes by.
use Rattle.std.specs.Prelude.{◌≡◌, ℕ, ◌==◌, List, [], ◌∷◌, ◌++◌, take, codes, if◌then◌else◌}
use Rattle.std.specs.Str.{bytes_eq}
use Rattle.vol_disk.specs.Count.{next_count}
use Rattle.edge.specs.declared.noted.NotedSource.{NotedSource}
use Rattle.edge.specs.declared.noted.NotedSink.{NotedSink}
use Rattle.edge.specs.declared.noted.ScriptNotes.{ScriptNotes}

abbrev pub source_of : {S : Type 0} → NotedSource S → S
source_of source = source.inner

abbrev pub sink_of : {K : Type 0} → NotedSink K → K
sink_of sink = sink.inner

-- What is known of a text that was printed: how the line begins that did not end, as far as it is kept, and how many lines before it
-- were `no 1 Syntax`.
pub record Printed : Type 0 where
  pub line : List ℕ
  pub slips : ℕ

-- how many there are behind a line that ended
abbrev pub slips_behind : List ℕ → ℕ → ℕ
slips_behind line slips = if bytes_eq line (codes "no 1 Syntax") then next_count slips else slips

-- nothing was printed
abbrev pub unprinted : Printed
unprinted = record { line = []; slips = 0 }

-- the line ended
abbrev pub line_ended : List ℕ → ℕ → Printed
line_ended line slips = record { line = []; slips = slips_behind line slips }

-- one byte more was printed, and so many more
abbrev pub byte_printed : List ℕ → ℕ → ℕ → Printed
byte_printed line slips byte = if byte == 10 then line_ended line slips else record { line = take 40 (line ++ byte ∷ []); slips = slips }

unfoldable pub all_printed : Printed → List ℕ → Printed
all_printed p [] = p
all_printed p (byte ∷ bytes) = all_printed (byte_printed p.line p.slips byte) bytes

-- what is noted of what was printed
abbrev pub printed_of : ScriptNotes → Printed
printed_of notes = record { line = notes.printed.items; slips = notes.count }

-- what was printed, and the lines that were no commands, are as they were
pub record KeepsSlips (before after : ScriptNotes) : Type 0 where
  pub printed : after.printed ≡ before.printed
  pub count : after.count ≡ before.count
  pub first : after.first ≡ before.first
