-- A COMMAND THAT IS DONE: what its words lead to, and that the case of no refusal holds.
use Rattle.std.specs.Prelude.{◌≡◌, ◌&&◌, ◌||◌, ℕ, not, true, false, None, Ok, if◌then◌else◌}
use Rattle.tree_model.specs.Cases.{bad_tag, directory_for_file, dos_name, exists, loops, names_badly, no_reparse, no_security, no_stream}
use Rattle.tree_model.specs.Cases.{not_empty, packed, shared, too_big, too_many_handles, too_many_links}
use Rattle.tree_model.specs.Refusals.{Facts, is_edit}
use Rattle.tree_model.specs.Staging.{cannot_edit, is_built, linked}
use Rattle.tree_model.specs.Subjects.{Located, Machine, locate, subject_of}
use Rattle.tree_model.specs.declared.command.Command.{Command}

pub record IsAllowed (facts : Facts) (m : Machine) (session : ℕ) (command : Command) (at : Located) : Type 0 where
  pub built : is_built command ≡ true
  pub located : locate m session (subject_of command) ≡ Ok at
  pub dos : dos_name (subject_of command) at ≡ false
  pub badly : names_badly command at ≡ false
  pub directory : directory_for_file (subject_of command) at ≡ false
  pub stream : no_stream command (subject_of command) at ≡ false
  pub reparse : no_reparse command at ≡ false
  pub there : exists m.tree (subject_of command) at.link at.new ≡ false
  pub empty : not_empty m.tree command at ≡ false
  pub loop : loops m.tree (subject_of command) at.file at.new ≡ false
  pub plain : packed (subject_of command) at ≡ false
  pub tag : bad_tag command ≡ false
  pub security : no_security facts.descriptor command ≡ false
  pub size : too_big command at ≡ false
  pub links : too_many_links m.tree (subject_of command) at.file ≡ false
  pub handles : too_many_handles m.opens session command ≡ false
  pub opens : shared m command at ≡ None
  pub keys : linked m.tree command at ≡ false
  pub whole : (is_edit command && (cannot_edit facts.whole_table m.tree at.file || not (facts.built_for m command at))) ≡ false
  pub room : (if is_edit command then facts.no_room m command at else None) ≡ None
