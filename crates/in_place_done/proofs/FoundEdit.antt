-- A COMMAND THAT IS DONE, whose words led to a file that can be edited.
use Rattle.std.proofs.Common.{◌≡◌, ◌&&◌, ◌||◌, not, ◌≤◌, ◌+◌, ℕ, Bool, true, false, length, Some, Ok, refl, sym, ap, subst, ◌∙◌, arith}
use Rattle.std.proofs.lemmas.Bool.{ltb-false, or_parts}
use Rattle.std.specs.List.{Contains}
use Rattle.std.specs.Prelude.{nat_lt}
use Rattle.ntfs_def.specs.FileName.{FileName}
use Rattle.volume_def.specs.FileNames.{names_of}
use Rattle.volume_def.specs.Files.{records_of}
use Rattle.volume_def.specs.View.{VolumeView}
use Rattle.tree_model.specs.Cases.{is_far, is_wide, packed, too_big}
use Rattle.tree_model.specs.Effects.{makes_file}
use Rattle.tree_model.specs.Refusals.{Facts, is_edit}
use Rattle.tree_model.specs.Staging.{cannot_edit, is_built_for}
use Rattle.tree_model.specs.Subjects.{Located, Machine, locate, subject_of}
use Rattle.tree_model.specs.declared.command.Command.{Command}
use Rattle.tree_model.specs.declared.command.Command.TheVariants as c
use Rattle.tree_model.specs.declared.tree.Node.{Node}
use Rattle.session_def.specs.Cost.{bytes_in}
use Rattle.session_def.specs.Nodes.{edits_stream}
use Rattle.session_def.specs.State.{State}
use Rattle.edit_written.specs.Allowed.{IsAllowed}
use Rattle.edit_written.proofs.AllowedCommands.{allowed}
use Rattle.in_place.specs.Unnamed.{CanSet}
use Rattle.in_place_done.specs.Written.{FindsFile, is_done}
use Rattle.in_place_done.proofs.FoundFile.{has-content, leads-there}
use Rattle.in_place_done.proofs.HeldStream.{HoldsStream, stream-held}
use Rattle.in_place_done.proofs.StagedVolume.{CanBeEdited}
use Rattle.in_place_done.proofs.TreeBehind.{node-there}
use Rattle.in_place_done.proofs.Ways.{stream-some}

not-false : (b : Bool) → not b ≡ false → b ≡ true
not-false true e = refl
not-false false e = cc

is-edit : (command : Command) → is_done command ≡ true → is_edit command ≡ true
is-edit (c.Setattr path flags) is = refl
is-edit (c.Write path stream from bytes) is = refl
is-edit (c.Hwrite handle from bytes) is = refl
is-edit (c.Punch path stream from len) is = refl
is-edit (c.Truncate path stream size) is = refl
is-edit (c.Rmstream path name) is = refl
is-edit (c.Setsec path id) is = refl
is-edit other is = cc

-- what makes no file
pub makes-none : (command : Command) → is_done command ≡ true → makes_file command ≡ true → ⊥
makes-none (c.Create path) is makes = cc
makes-none (c.Mkdir path) is makes = cc
makes-none other is makes = cc

-- what is not too big has few bytes
few-range : (from len : ℕ) → is_wide from len ≡ false → len ≤ 32768
few-range from len narrow = ltb-false 32768 len (or_parts (is_far (from + len)) (nat_lt 32768 len) narrow).1

few-bytes : (command : Command) (at : Located) → is_done command ≡ true → too_big command at ≡ false → bytes_in command ≤ 32768
few-bytes (c.Setattr path flags) at is fits = omega arith
few-bytes (c.Write path stream from bytes) at is fits = few-range from (length bytes) fits
few-bytes (c.Hwrite handle from bytes) at is fits = few-range from (length bytes) fits
few-bytes (c.Punch path stream from len) at is fits = omega arith
few-bytes (c.Truncate path stream size) at is fits = omega arith
few-bytes (c.Rmstream path name) at is fits = omega arith
few-bytes (c.Setsec path id) at is fits = omega arith
few-bytes other at is fits = cc

-- the stream that a command names
stream-of : (view : VolumeView) (m : Machine) (session : ℕ) (command : Command) (at : Located) (node : Node) → at.node ≡ Some node
    → is_done command ≡ true → edits_stream command ≡ true → locate m session (subject_of command) ≡ Ok at
    → packed (subject_of command) at ≡ false → is_built_for view m.tree command at ≡ true → HoldsStream m.tree at node
stream-of view m session (c.Write path stream from bytes) at node there is edits found plain built =
    stream-held view m.tree at node there (has-content m session (c.Write path stream from bytes) at refl refl found) plain
    (stream-some view m.tree (c.Write path stream from bytes) at refl refl built)
stream-of view m session (c.Hwrite handle from bytes) at node there is edits found plain built =
    stream-held view m.tree at node there (has-content m session (c.Hwrite handle from bytes) at refl refl found) plain
    (stream-some view m.tree (c.Hwrite handle from bytes) at refl refl built)
stream-of view m session (c.Punch path stream from len) at node there is edits found plain built =
    stream-held view m.tree at node there (has-content m session (c.Punch path stream from len) at refl refl found) plain
    (stream-some view m.tree (c.Punch path stream from len) at refl refl built)
stream-of view m session (c.Truncate path stream size) at node there is edits found plain built =
    stream-held view m.tree at node there (has-content m session (c.Truncate path stream size) at refl refl found) plain
    (stream-some view m.tree (c.Truncate path stream size) at refl refl built)
stream-of view m session (c.Rmstream path name) at node there is edits found plain built =
    stream-held view m.tree at node there (has-content m session (c.Rmstream path name) at refl refl found) plain
    (stream-some view m.tree (c.Rmstream path name) at refl refl built)
stream-of view m session (c.Setattr path flags) at node there is edits found plain built = cc
stream-of view m session (c.Setsec path id) at node there is edits found plain built = cc
stream-of view m session other at node there is edits found plain built = cc

module _ (facts : Facts) (before : State) (session : ℕ) (command : Command) (f : ℕ) (node : Node)
    (finds : FindsFile facts before session command f node) where
  abbrev at : Located
  at = finds.at

  allows : IsAllowed facts before.machine session command at
  allows = allowed facts before.machine session command at finds.found

  can : CanSet before.view at.file node
  can = subst (λ g. CanSet before.view g node) (sym finds.file) finds.can

  -- it is built for the volume: done in place there, in a record or in clusters
  built : is_built_for before.view before.machine.tree command at ≡ true
  built =
      let cannot = cannot_edit facts.whole_table before.machine.tree at.file in
      let is_for = facts.built_for before.machine command at in
      let whole = sym (ap (λ b. b && (cannot || not is_for)) (is-edit command finds.edits)) ∙ allows.whole in
      sym (finds.told.built_for before.machine command at) ∙ not-false is_for (or_parts cannot (not is_for) whole).1

  there : at.node ≡ Some node
  there = (leads-there before.machine session command at finds.edits allows.located).node
      ∙ node-there before finds.stands at.file node can.there

  -- its stream, where it names one
  stream : edits_stream command ≡ true → HoldsStream before.machine.tree at node
  stream edits =
      stream-of before.view before.machine session command at node there finds.edits edits allows.located allows.plain built

  pub can-be-edited : CanBeEdited before command at node
  can-be-edited = record {
    stands = finds.stands;
    edits = finds.edits;
    none = (leads-there before.machine session command at finds.edits allows.located).new;
    built = built;
    can = can;
    shown = finds.shown;
    few = few-bytes command at finds.edits allows.size;
    high =
        subst (λ g. (name : FileName) → Contains (names_of (records_of before.view) g) name → 4 ≤ name.parent.number) (sym finds.file)
        finds.high;
    stream = stream;
  }
