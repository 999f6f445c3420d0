-- EITHER COMMAND: `mkdir` changes, keeps and pays what `create` does, but for what the new file is.
use Rattle.std.proofs.Common.{◌≡◌, ◌==◌, ℕ, Bool, true, false, List, [], Some, refl}
use Rattle.std.proofs.lemmas.Bool.{and_right}
use Rattle.std.specs.Prelude.{is_some}
use Rattle.volume_def.specs.Files.{records_of}
use Rattle.volume_def.specs.View.{VolumeView}
use Rattle.tree_model.specs.Bill.{changes_of}
use Rattle.tree_model.specs.Subjects.{Located}
use Rattle.tree_model.specs.Tree.{Tree, node_of}
use Rattle.tree_model.specs.declared.command.Command.TheVariants as c
use Rattle.edit_def.specs.Kept.{Key}
use Rattle.edit_def.specs.Names.{Numbers, numbers_at}
use Rattle.session_def.specs.Cost.{depths, is_changed_file}
use Rattle.session_def.specs.Done.{GainsRightly, KeepsOfNamed}
use Rattle.session_def.specs.Indexes.{KeepsIndexes}
use Rattle.session_def.specs.Named.{is_changed_key}
use Rattle.session_def.specs.Nodes.{ComesRightly, IsNewFile, KeepsDosFlags, KeepsNodes, is_directory_node}
use Rattle.session_def.specs.Owed.{goes_by}
use Rattle.session_def.specs.Room.{KeepsBlocks}
use Rattle.session_def.specs.State.{State}
use Rattle.made_owed.specs.MadeOwed.{made_command}

never : {b : Bool} → b ≡ true → b ≡ false → ⊥
never x y = cc

-- WHAT IT NAMES
pub key-same : (directory : Bool) (view : VolumeView) (before next : Tree) (path : List (List ℕ)) (at : Located) (made : ℕ) (key : Key)
    → is_changed_key view before next (made_command directory path) at made key
    ≡ is_changed_key view before next (c.Create path) at made key
key-same true view before next path at made key = refl
key-same false view before next path at made key = refl

pub goes-none : (directory : Bool) (tree : Tree) (path : List (List ℕ)) (at : Located) (f : ℕ)
    → goes_by tree (made_command directory path) at f ≡ true → ⊥
goes-none true tree path at f is = never is (and_right (f == at.file) false refl)
goes-none false tree path at f is = never is (and_right (f == at.file) false refl)

-- WHAT IT PAYS
pub depths-same : (directory : Bool) (view : VolumeView) (tree : Tree) (path : List (List ℕ)) (at : Located) (made : ℕ)
    → depths view tree (made_command directory path) at made ≡ depths view tree (c.Create path) at made
unfolding depths changes_of
depths-same true view tree path at made = refl
depths-same false view tree path at made = refl

-- WHAT IT KEEPS
pub blocks-either : (directory : Bool) (old new : VolumeView) (before next : Tree) (path : List (List ℕ)) (at : Located) (made : ℕ)
    → KeepsBlocks (is_changed_file old before next (c.Create path) at made) old new
    → KeepsBlocks (is_changed_file old before next (made_command directory path) at made) old new
blocks-either true old new before next path at made kept = kept
blocks-either false old new before next path at made kept = kept

pub named-either : (directory : Bool) (before next : State) (path : List (List ℕ)) (at : Located) (made : ℕ)
    → KeepsOfNamed before next (c.Create path) at made → KeepsOfNamed before next (made_command directory path) at made
named-either true before next path at made kept = record {
  standard = kept.standard;
  names = kept.names;
  numbers = kept.numbers;
  sequence = kept.sequence;
  points = kept.points;
  object_ids = kept.object_ids;
  entries = kept.entries;
}
named-either false before next path at made kept = kept

pub gains-either : (directory : Bool) (before next : State) (path : List (List ℕ)) (at : Located)
    → GainsRightly before next (c.Create path) at → GainsRightly before next (made_command directory path) at
gains-either true before next path at gains = record { ends = gains.ends; gains = gains.gains; owned = gains.owned }
gains-either false before next path at gains = gains

pub indexes-either : (directory : Bool) (old new : VolumeView) (before next : Tree) (path : List (List ℕ)) (at : Located) (made : ℕ)
    → KeepsIndexes old new before next (c.Create path) at made → KeepsIndexes old new before next (made_command directory path) at made
unfolding changes_of
indexes-either true old new before next path at made kept =
    record { keys = kept.keys; directories = kept.directories; points = kept.points; object_ids = kept.object_ids }
indexes-either false old new before next path at made kept = kept

-- the new file, which was none before
pub nodes-either : (directory : Bool) (old new : VolumeView) (before next : Tree) (path : List (List ℕ)) (at : Located) (made : ℕ)
    → ((f : ℕ) → is_some (node_of before f) ≡ true → KeepsDosFlags old new before (c.Create path) at made f)
    → ((was : Numbers) → numbers_at (records_of old) made ≡ Some was → ⊥) → IsNewFile new directory made
    → ComesRightly old new (c.Create path) at [] made (is_directory_node next made)
    → KeepsNodes old new before next (made_command directory path) at made
nodes-either true old new before next path at made flags none fresh name = record {
  dos_flags = λ f was now. let kept = flags f was in record { point = kept.point; sparse = kept.sparse; holed = kept.holed };
  main = λ was now is becomes. absurd (none was is);
  fresh = λ makes. fresh;
  named = record { each = name.each };
  sized = λ edits there. absurd (never edits refl);
  point = tt;
}
nodes-either false old new before next path at made flags none fresh name = record {
  dos_flags = λ f was now. flags f was;
  main = λ was now is becomes. absurd (none was is);
  fresh = λ makes. fresh;
  named = name;
  sized = λ edits there. absurd (never edits refl);
  point = tt;
}
