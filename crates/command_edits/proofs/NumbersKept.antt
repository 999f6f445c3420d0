-- Of files whose names a command does not change the numbers and the names stay, and of the file itself the sequence number.
use Rattle.std.proofs.Common.{Bool, List, Option, [], ap, refl, subst, sym, true, ℕ, ◌∙◌, ◌∷◌, ◌≡◌}
use Rattle.std.specs.Option.{option_map}
use Rattle.ntfs_def.specs.FileName.{FileName}
use Rattle.volume_def.specs.FileNames.{names_of}
use Rattle.volume_def.specs.Files.{records_of}
use Rattle.volume_def.specs.View.{VolumeView}
use Rattle.tree_model.specs.Subjects.{Machine}
use Rattle.edit_def.specs.Account.{Wants}
use Rattle.edit_def.specs.Marks.{Marks}
use Rattle.edit_def.specs.Names.{KeepsNames, KeepsOthers, Numbers, gone_names, numbers_at}
use Rattle.reading_edits.proofs.CommandSteps.{others-back}
use Rattle.reading_edits.proofs.NamesInTurn.{KeepsNames-same, KeepsNames-then, KeepsOthers-then, others-of}
use Rattle.command_edits.specs.Calls.{RefreshesEntries}
use Rattle.command_edits.specs.Commands.{DoesLink, DoesMake, DoesMove, DoesRemove, DoesSet, DoesUnlink}
use Rattle.command_edits.proofs.EachCall.{EachKeeps, link-keeps, make-keeps, move-keeps, remove-keeps, unlink-keeps}

-- ALL OTHER FILES
abbrev Others : ℕ → VolumeView → VolumeView → Type 0
Others f old new = KeepsOthers (records_of old) (records_of new) f

each-others : (f : ℕ) (gone : List FileName) → EachKeeps (Others f) f gone (λ g. true)
each-others f gone = record {
  same = λ view g ne. KeepsNames-same (records_of view) g;
  turn = λ old mid new. KeepsOthers-then (records_of old) (records_of mid) (records_of new) f;
  adds = λ wants old new before after name call. call.gets.others;
  drops = λ wants old new before after name there call. others-back (records_of new) (records_of old) f call.loses.others;
  refreshes = λ wants old new before after g name of call. others-of (records_of old) (records_of new) f call.names_kept;
  stamps = λ wants old new before after g times flags call. others-of (records_of old) (records_of new) f call.names_kept;
}

module _ (m : Machine) (wants : Wants) (old new : VolumeView) (before after : Marks) (f : ℕ) where
  abbrev gone : FileName → List FileName
  gone name = gone_names (names_of (records_of old) f) name

  pub make-others : (directory : Bool) (name : FileName) → DoesMake m wants old new before after f directory name → Others f old new
  make-others directory name x =
      make-keeps (Others f) f [] (λ g. true) (each-others f []) m wants old new before after directory name x
      (λ bill view next m0 m1 node call. call.comes.others) (λ entry there. refl)

  pub link-others : (name : FileName) → DoesLink m wants old new before after f name → Others f old new
  link-others name x =
      link-keeps (Others f) f [] (λ g. true) (each-others f []) m wants old new before after name x (λ entry there. refl)

  pub remove-others : (name : FileName) → DoesRemove m wants old new before after f name → Others f old new
  remove-others name x =
      remove-keeps (Others f) f (gone name) (λ g. true) (each-others f (gone name)) m wants old new before after name (λ one there. there) x
      (λ bill view next m0 m1 call. others-back (records_of next) (records_of view) f call.goes.others) (λ entry there. refl)

  pub unlink-others : (name : FileName) → DoesUnlink m wants old new before after f name → Others f old new
  unlink-others name x =
      unlink-keeps (Others f) f (gone name) (λ g. true) (each-others f (gone name)) m wants old new before after name (λ one there. there) x
      (λ entry there. refl)

  pub move-others : (name fresh : FileName) → DoesMove m wants old new before after f name fresh → Others f old new
  move-others name fresh x =
      move-keeps (Others f) f (gone name) (λ g. true) (each-others f (gone name)) m wants old new before after name (λ one there. there)
      fresh x (λ entry there. refl)

-- entries told anew
entries-names : (entries : List (ℕ × FileName)) (old new : VolumeView) (before after : Marks)
    → RefreshesEntries entries old new before after
    → (g : ℕ) → KeepsNames (records_of old) (records_of new) g
entries-names [] old new before after (same, marks) g =
    subst (λ v. KeepsNames (records_of old) (records_of v) g) (sym same) (KeepsNames-same (records_of old) g)
entries-names (entry ∷ entries) old new before after (mid, marks, call, rest) g =
    KeepsNames-then (records_of old) (records_of mid) (records_of new) g (call.names_kept g)
    (entries-names entries mid new marks after rest g)

-- ITS SEQUENCE NUMBER
abbrev pub SameSequence : ℕ → VolumeView → VolumeView → Type 0
SameSequence f old new = option_map (λ (n : Numbers). n.sequence) (numbers_at (records_of new) f)
    ≡ option_map (λ (n : Numbers). n.sequence) (numbers_at (records_of old) f)

sequence-same : (f : ℕ) (old new : VolumeView) → KeepsNames (records_of old) (records_of new) f → SameSequence f old new
sequence-same f old new kept = ap (option_map (λ (n : Numbers). n.sequence)) kept.numbers

each-sequence : (f : ℕ) (gone : List FileName) → EachKeeps (SameSequence f) f gone (λ g. true)
each-sequence f gone = record {
  same = λ view. refl;
  turn = λ old mid new a b. b ∙ a;
  adds = λ wants old new before after name call. ap (option_map (λ (n : Numbers). n.sequence)) call.gets.now_at
      ∙ sym (ap (option_map (λ (n : Numbers). n.sequence)) call.gets.was_at);
  drops = λ wants old new before after name there call. ap (option_map (λ (n : Numbers). n.sequence)) call.loses.was_at
      ∙ sym (ap (option_map (λ (n : Numbers). n.sequence)) call.loses.now_at);
  refreshes = λ wants old new before after g name of call. sequence-same f old new (call.names_kept f);
  stamps = λ wants old new before after g times flags call. sequence-same f old new (call.names_kept f);
}

module _ (m : Machine) (wants : Wants) (old new : VolumeView) (before after : Marks) (f : ℕ) where
  abbrev goes_with : FileName → List FileName
  goes_with name = gone_names (names_of (records_of old) f) name

  pub link-sequence : (name : FileName) → DoesLink m wants old new before after f name → SameSequence f old new
  link-sequence name x =
      link-keeps (SameSequence f) f [] (λ g. true) (each-sequence f []) m wants old new before after name x (λ entry there. refl)

  pub unlink-sequence : (name : FileName) → DoesUnlink m wants old new before after f name → SameSequence f old new
  unlink-sequence name x =
      unlink-keeps (SameSequence f) f (goes_with name) (λ g. true) (each-sequence f (goes_with name)) m wants old new before after name
      (λ one there. there) x (λ entry there. refl)

  pub move-sequence : (name fresh : FileName) → DoesMove m wants old new before after f name fresh → SameSequence f old new
  move-sequence name fresh x =
      move-keeps (SameSequence f) f (goes_with name) (λ g. true) (each-sequence f (goes_with name)) m wants old new before after name
      (λ one there. there) fresh x (λ entry there. refl)

  -- where a file is set all files keep their names too
  pub set-names : (flags security : Option ℕ) → (x : DoesSet m wants old new before after f flags security) → (g : ℕ)
      → KeepsNames (records_of old) (records_of new) g
  set-names flags security x g =
      KeepsNames-then (records_of old) (records_of x.set.view) (records_of new) g (x.sets.names_kept g)
      (entries-names x.entries x.set.view new x.set.marks after x.refreshes g)
