-- WHAT `create` OR `mkdir` STAGED can be written: it leaves alone what tells where the volume lies, and with the first mark behind it is
-- all that an edit leaves that was done.
use Rattle.std.proofs.Common.{◌≡◌, ◌≤◌, ◌+◌, ℕ, Bool, true, false, List, [], None, length, refl, sym, ap, ◌∙◌, arith}
use Rattle.std.specs.List.{Contains}
use Rattle.ntfs_def.specs.FileName.{FileName}
use Rattle.volume_def.specs.FileNames.{names_of}
use Rattle.volume_def.specs.Files.{records_of}
use Rattle.volume_def.specs.Sound.{IsSound}
use Rattle.volume_def.specs.View.{VolumeView}
use Rattle.tree_model.specs.Effects.{make, tree_after}
use Rattle.tree_model.specs.Reading.{read}
use Rattle.tree_model.specs.Subjects.{NameIn, at_file}
use Rattle.tree_model.specs.declared.command.Command.TheVariants as c
use Rattle.tree_model.specs.declared.tree.Node.{Node}
use Rattle.session_def.specs.Done.{LeavesDone}
use Rattle.session_def.specs.State.{Stands, State}
use Rattle.in_place_done.specs.Behind.{MarksBehind}
use Rattle.in_place_done.specs.SetsInPlace.{SetsInPlace}
use Rattle.in_place_done.specs.LeavesAlone.{LeavesAlone}
use Rattle.in_place_done.proofs.LeftAlone.{both}
use Rattle.made_owed.specs.Comes.{CanMake}
use Rattle.made_owed.specs.MadeOwed.{SetsBehindMade, at_name, between, made_command}
use Rattle.made_owed.proofs.MadeOwes as owed
use Rattle.in_place_done.specs.Written.{most_set}
use Rattle.in_place_done.proofs.SetOwed.{set-alone, set-in-place}
use Rattle.made_owed.specs.Makes.{MakesUnder}
use Rattle.made_done.specs.MadeDone.{most_made}
use Rattle.made_done.proofs.FileMade as file
use Rattle.made_done.proofs.LeftAlone.{alone-cost, made-alone}

-- what it does to the tree
pub made-effect : (directory : Bool) (before : State) (path : List (List ℕ)) (dir : ℕ) (units : List ℕ) (made : ℕ)
    → tree_after before.machine (made_command directory path) (at_name dir units) made
    ≡ make directory before.machine.now made (NameIn dir units) before.machine.tree
unfolding tree_after
made-effect true before path dir units made = refl
made-effect false before path dir units made = refl

-- WHAT CAN BE WRITTEN
pub record CanBeLeft (directory : Bool) (before : State) (path : List (List ℕ)) (dir : ℕ) (units : List ℕ) (made : ℕ)
    (new : VolumeView) : Type 0 where
  pub sound : IsSound new
  pub reads : read new ≡ tree_after before.machine (made_command directory path) (at_name dir units) made
  pub alone : LeavesAlone before.view new
  pub leaves : (next : State) → MarksBehind new next.view → IsSound next.view → length next.image ≡ length before.image
      → next.machine.tree ≡ tree_after before.machine (made_command directory path) (at_name dir units) made
      → next.written ≤ before.written + most_made before dir → LeavesDone before next (made_command directory path) (at_name dir units) made

module _ (directory : Bool) (before : State) (stands : Stands before) (dir : ℕ) (units : List ℕ) (node : Node)
    (can : CanMake before.view dir node units)
    (high : (name : FileName) → Contains (names_of (records_of before.view) dir) name → 4 ≤ name.parent.number) (made : ℕ)
    (new : VolumeView) (s : MakesUnder directory before.view new before.machine.tree before.machine.now dir units node made) where
  abbrev old : VolumeView
  old = before.view

  abbrev mid : VolumeView
  mid = s.mid

  -- the file, and then the directory
  alone-made : LeavesAlone old mid
  alone-made =
      made-alone old mid made dir (file.ordinary directory before stands dir units node can high made new s)
      (file.left directory before stands dir units node can high made new s) can.parent.apart

  alone : LeavesAlone old new
  alone =
      both old mid new alone-made
      (set-alone (between before mid) (c.Setattr [] 0) (at_file (read mid) None dir) node new
      (file.can-set directory before stands dir units node can high made new s)
      (file.set directory before stands dir units node can high made new s))

  module _ (next : State) (first : MarksBehind new next.view) (settled : IsSound next.view) (long : length next.image ≡ length before.image)
      (moved : next.machine.tree ≡ make directory before.machine.now made (NameIn dir units) before.machine.tree)
      (wrote : next.written ≤ before.written + most_made before dir) where
    few : next.written ≤ (between before mid).written + most_set (between before mid) (c.Setattr [] 0) dir
    few =
        let cost = alone-cost old mid alone-made in
        let names = ap length (file.names directory before stands dir units node can high made new s) in
        omega (arith, wrote, cost, names)

    behind : SetsInPlace (between before mid) next (c.Setattr [] 0) (at_file (read mid) None dir) new
    behind =
        set-in-place (between before mid) (c.Setattr [] 0) (at_file (read mid) None dir) node new
        (file.can-set directory before stands dir units node can high made new s)
        (file.set directory before stands dir units node can high made new s) next first settled long few

    sets : SetsBehindMade directory before next dir units made mid new
    sets =
        let set = file.set directory before stands dir units node can high made new s in
        record {
          stands = stands;
          was = s.was;
          right = s.right;
          stored = s.stored;
          node = node;
          can = can;
          now = s.now;
          standard = s.makes.standard;
          key = s.makes.key;
          is_standard = s.makes.new_standard;
          plain = s.makes.plain;
          long = s.makes.plain.long;
          is_key = s.makes.new_key;
          comes = s.makes.comes;
          moved = moved;
          behind = behind;
          entries = λ g was now index has still. set.entries g was now index has still before.machine.tree next.machine.tree;
        }

  pub can-be-left : (path : List (List ℕ)) → CanBeLeft directory before path dir units made new
  can-be-left path =
      let effect = made-effect directory before path dir units made in
      record {
        sound = (file.set directory before stands dir units node can high made new s).sound;
        reads = file.reads directory before stands dir units node can high made new s ∙ sym effect;
        alone = alone;
        leaves = λ next first settled long moved wrote.
            owed.leaves directory before next dir units made mid new (sets next first settled long (moved ∙ effect) wrote) path;
      }
