-- A run of drawn lines: which numbers are drawn, which lines had a turn, and what is printed of them in the end.
use Rattle.std.specs.Prelude.{◌≡◌, ◌⊎◌, ◌+◌, ◌≤◌, ◌++◌, ℕ, zero, suc, List, [], ◌∷◌, Bool, true, false, Option, count_by}
use Rattle.vol_disk.specs.Count.{Rose}
use Rattle.vol_disk.specs.Stream.{IsAppended, IsAppendedPart}
use Rattle.cmd_lang.specs.Printed.{df_text, made_text}
use Rattle.cmd_lang.specs.Script.{next_draw}
use Rattle.tree_model.specs.Facts.{TellsFacts}
use Rattle.tree_model.specs.Refusals.{Facts}
use Rattle.tree_model.specs.declared.reply.Reply.{Reply}
use Rattle.tree_model.specs.declared.reply.Reply.TheVariants as reply
use Rattle.session_def.specs.Session.{Turn}
use Rattle.session_def.specs.State.{State}
use Rattle.script_run.specs.declared.end.ScriptEnd.{ScriptEnd}
use Rattle.script_run.specs.declared.end.ScriptEnd.TheVariants as end
use Rattle.script_run.specs.World.{World}

-- the number that is drawn as the k-th behind the seed
abbrev pub drawn : ℕ → ℕ → ℕ
drawn seed zero = seed
drawn seed (suc k) = next_draw (drawn seed k)

-- the first lines of the seed, so many
abbrev pub drawn_lines : ℕ → ℕ → List (List ℕ)
drawn_lines seed zero = []
drawn_lines seed (suc k) = drawn_lines seed k ++ (drawn seed (suc k) ∷ []) ∷ []

pub record AreFirstDrawn (seed count : ℕ) (lines : List (List ℕ)) : Type 0 where
  pub k : ℕ
  pub within : k ≤ count
  pub are : lines ≡ drawn_lines seed k

-- Which lines had a turn: all of them where the run came to print; else some from the first.
abbrev pub AreDrawn : ScriptEnd → ℕ → ℕ → List (List ℕ) → Type 0
AreDrawn end.Done seed count lines = lines ≡ drawn_lines seed count
AreDrawn end.Sink seed count lines = lines ≡ drawn_lines seed count
AreDrawn end.Device seed count lines = AreFirstDrawn seed count lines
AreDrawn end.Memory seed count lines = AreFirstDrawn seed count lines
AreDrawn end.Source seed count lines = ⊥
AreDrawn end.TooMuch seed count lines = ⊥

-- the line behind these: one more of the drawn ones, or behind all of them the one that asks what is free
abbrev pub IsNextDrawn : ℕ → ℕ → List (List ℕ) → List ℕ → Type 0
IsNextDrawn seed count lines line =
    AreFirstDrawn seed count (lines ++ line ∷ []) ⊎ ((lines ≡ drawn_lines seed count) × (line ≡ []))

-- how many lines were done, and how many refused
abbrev pub is_done : Reply → Bool
is_done (reply.Ok answer) = true
is_done (reply.No refused) = false
is_done reply.Device = false

abbrev pub is_refused : Reply → Bool
is_refused (reply.Ok answer) = false
is_refused (reply.No refused) = true
is_refused reply.Device = false

abbrev pub oks_of : List Turn → ℕ
oks_of turns = count_by (λ turn. is_done turn.answer) turns

abbrev pub nos_of : List Turn → ℕ
nos_of turns = count_by (λ turn. is_refused turn.answer) turns

-- The text: so many lines, of which so many were done and so many refused, and the line that `df` shows of the last image.
pub record IsSummary (oks nos : ℕ) (last : State) (text : List ℕ) : Type 0 where
  pub facts : Facts
  pub told : TellsFacts last.view facts
  pub is : text ≡ made_text (oks + nos) oks nos ++ df_text facts.clusters facts.free facts.records facts.free_records

-- All lines have a turn, and the text of them was printed whole, or a part of it from its front.
pub record TellsAll (count : ℕ) (last : State) (turns : List Turn) (before after : Option (List ℕ)) : Type 0 where
  pub sum : oks_of turns + nos_of turns ≡ count
  pub text : List ℕ
  pub summary : IsSummary (oks_of turns) (nos_of turns) last text
  pub printed : IsAppended before text after

pub record TellsPart (count : ℕ) (last : State) (turns : List Turn) (before after : Option (List ℕ)) : Type 0 where
  pub sum : oks_of turns + nos_of turns ≡ count
  pub text : List ℕ
  pub summary : IsSummary (oks_of turns) (nos_of turns) last text
  pub printed : IsAppendedPart before text after

-- What was printed. Where the disk failed it is nothing, or, behind all lines, the whole text, or a part of it where the sink failed too.
abbrev pub PrintsSummary : ScriptEnd → ℕ → State → List Turn → World → World → Type 0
PrintsSummary end.Done count last turns old new = TellsAll count last turns old.got new.got
PrintsSummary end.Sink count last turns old new = TellsPart count last turns old.got new.got
PrintsSummary end.Device count last turns old new =
    ((new.sink_faults ≡ old.sink_faults) × ((new.got ≡ old.got) ⊎ TellsAll count last turns old.got new.got))
    ⊎ (Rose old.sink_faults new.sink_faults × TellsPart count last turns old.got new.got)
PrintsSummary end.Memory count last turns old new = new.got ≡ old.got
PrintsSummary end.Source count last turns old new = ⊥
PrintsSummary end.TooMuch count last turns old new = ⊥

-- The same before the volume is closed.
abbrev pub SummaryAt : ScriptEnd → ℕ → State → List Turn → Option (List ℕ) → Option (List ℕ) → Type 0
SummaryAt end.Done count last turns before got = TellsAll count last turns before got
SummaryAt end.Sink count last turns before got = TellsPart count last turns before got
SummaryAt end.Device count last turns before got = got ≡ before
SummaryAt end.Memory count last turns before got = got ≡ before
SummaryAt end.Source count last turns before got = ⊥
SummaryAt end.TooMuch count last turns before got = ⊥
