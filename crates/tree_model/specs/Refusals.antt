-- The refusals of a command in their order, told here alone.
use Rattle.std.specs.Prelude.{ℕ, ◌&&◌, ◌||◌, not, Bool, true, false, List, [], ◌∷◌, Option, Some, None, Result, Ok, Err, if◌then◌else◌}
use Rattle.std.specs.Option.{option_or}
use Rattle.tree_model.specs.Cases.{bad_tag, directory_for_file, dos_name, exists, loops, names_badly, no_reparse, no_security, no_stream}
use Rattle.tree_model.specs.Cases.{not_empty, packed, shared, too_big, too_many_handles, too_many_links}
use Rattle.tree_model.specs.Paths.{and_then}
use Rattle.tree_model.specs.Staging.{cannot_edit, is_built, linked}
use Rattle.tree_model.specs.Subjects.{Located, Machine, Subject, locate, subject_of}
use Rattle.tree_model.specs.declared.command.Command.{Command}
use Rattle.tree_model.specs.declared.command.Command.TheVariants as c
use Rattle.tree_model.specs.declared.reply.No.{No}
use Rattle.tree_model.specs.declared.reply.No.TheVariants as no

-- What the image tells beside the tree.
pub record Facts : Type 0 where
  -- all clusters, those without an owner, all records, and those from 24 on that are not in use
  pub clusters : ℕ
  pub free : ℕ
  pub records : ℕ
  pub free_records : ℕ
  -- whether each record of the table was written whole, or not at all
  pub whole_table : Bool
  -- whether the command is built for what its words lead to
  pub built_for : Machine → Command → Located → Bool
  -- whether a record is in use
  pub in_use : ℕ → Bool
  -- the security descriptor of an id
  pub descriptor : ℕ → Option (List ℕ)
  -- the refusal for room of an edit: TooManyParts, TooDeep, MftFull or NoRoom
  pub no_room : Machine → Command → Located → Option No

-- Every command but those that read, `time`, `open` and `close` is an edit.
abbrev pub is_edit : Command → Bool
is_edit (c.Create path) = true
is_edit (c.Mkdir path) = true
is_edit (c.Rm path) = true
is_edit (c.Rmdir path) = true
is_edit (c.Ln old new) = true
is_edit (c.Mv old new) = true
is_edit (c.Write path stream at bytes) = true
is_edit (c.Truncate path stream size) = true
is_edit (c.Punch path stream at len) = true
is_edit (c.Rmstream path name) = true
is_edit (c.Setattr path flags) = true
is_edit (c.Setsec path id) = true
is_edit (c.Mkreparse path tag bytes) = true
is_edit (c.Rmreparse path) = true
is_edit (c.Hwrite handle at bytes) = true
is_edit other = false

-- Those that read leave the machine as it was.
abbrev pub is_reading : Command → Bool
is_reading (c.Time now) = false
is_reading (c.Open path stream access share) = false
is_reading (c.Close handle) = false
is_reading other = not (is_edit other)

abbrev pub when : Bool → No → Option No
when test refused = if test then Some refused else None

abbrev pub first_some : {A : Type 0} → List (Option A) → Option A
first_some [] = None
first_some (test ∷ tests) = option_or test (first_some tests)

-- THE ORDER OF REFUSALS, behind those that come of finding what the words lead to.
abbrev pub refusal_cases : Facts → Machine → ℕ → Command → Subject → Located → List (Option No)
refusal_cases facts m session command subject at =
    when (dos_name subject at) no.DosName ∷
    when (names_badly command at) no.BadName ∷
    when (directory_for_file subject at) no.IsDir ∷
    when (no_stream command subject at) no.NoStream ∷
    when (no_reparse command at) no.NoReparse ∷
    when (exists m.tree subject at.link at.new) no.Exists ∷
    when (not_empty m.tree command at) no.NotEmpty ∷
    when (loops m.tree subject at.file at.new) no.Loop ∷
    when (packed subject at) no.Packed ∷
    when (bad_tag command) no.BadTag ∷
    when (no_security facts.descriptor command) no.NoSecurity ∷
    when (too_big command at) no.TooBig ∷
    when (too_many_links m.tree subject at.file) no.TooManyLinks ∷
    when (too_many_handles m.opens session command) no.TooManyHandles ∷
    shared m command at ∷
    when (linked m.tree command at) no.Linked ∷
    when (is_edit command && (cannot_edit facts.whole_table m.tree at.file || not (facts.built_for m command at))) no.Unbuilt ∷
    (if is_edit command then facts.no_room m command at else None) ∷ []

-- the first whose case holds
abbrev pub refusal : Facts → Machine → ℕ → Command → Subject → Located → Option No
refusal facts m session command subject at = first_some (refusal_cases facts m session command subject at)

-- unless it is refused there
abbrev pub unless : Option No → Located → Result Located No
unless None at = Ok at
unless (Some refused) at = Err refused

-- What comes of a command: what its words lead to, or the refusal that is due. Commands that are not built come before all.
unfoldable pub outcome : Facts → Machine → ℕ → Command → Result Located No
outcome facts m session command =
    if is_built command then
    and_then (locate m session (subject_of command)) (λ at. unless (refusal facts m session command (subject_of command) at) at)
    else Err no.Unbuilt
