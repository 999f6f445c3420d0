-- WHAT IS DUE FOR `create` and `mkdir`: where the path leads to a directory, and to a name that can come there, a file or a directory is
-- made, and else the command is refused so.
use Rattle.std.proofs.Common.{◌≡◌, ◌≤◌, ℕ, Bool, true, false, List, length, Option, Some, None, Result, Ok, Err, refl, sym, ap}
use Rattle.std.proofs.Common.{subst, ◌∙◌, arith}
use Rattle.std.specs.Prelude.{Contains, if◌then◌else◌}
use Rattle.std.specs.Option.{option_map_or}
use Rattle.vol_disk.specs.Contents.{sector_in}
use Rattle.ntfs_def.specs.FileName.{FileName}
use Rattle.volume_def.specs.FileNames.{names_of}
use Rattle.volume_def.specs.Files.{records_of}
use Rattle.volume_def.specs.Sound.{IsSound, told_view}
use Rattle.volume_def.specs.View.{VolumeView}
use Rattle.tree_model.specs.Answers.{answer_of, node_answer}
use Rattle.tree_model.specs.Effects.{after, opens_after}
use Rattle.tree_model.specs.Facts.{TellsFacts}
use Rattle.tree_model.specs.Paths.{Place, and_then}
use Rattle.tree_model.specs.Reading.{read}
use Rattle.tree_model.specs.Refusals.{Facts, is_edit}
use Rattle.tree_model.specs.Step.{answered, due}
use Rattle.tree_model.specs.Subjects.{Located, Machine}
use Rattle.tree_model.specs.declared.command.Command.{Command}
use Rattle.tree_model.specs.declared.command.Command.TheVariants as c
use Rattle.tree_model.specs.declared.opens.OpenEntry.{OpenEntry}
use Rattle.tree_model.specs.declared.reply.Answer.TheVariants as a
use Rattle.tree_model.specs.declared.reply.No.{No}
use Rattle.tree_model.specs.declared.reply.No.TheVariants as no
use Rattle.tree_model.specs.declared.tree.Node.{Node}
use Rattle.session_def.specs.State.{Stands, State}
use Rattle.mark_write.specs.declared.flag.Flag.{Flag}
use Rattle.mark_write.specs.declared.log.Span.{Span}
use Rattle.made_done.specs.Below.{IsFinished, IsPlaceOf}
use Rattle.name_changes.specs.Alone.{if_room}
use Rattle.name_changes.specs.Places.{place_of, place_wanted}
use Rattle.name_changes.specs.Comes.{CanMake}
use Rattle.name_changes.specs.MadeEditsMakes.{MakesUnder}
use Rattle.made_done.specs.MadeOwed.{at_name, made_command}
use Rattle.made_done.specs.MadeDone.{FindsPlace, LeavesMade, StagesUnder}
use Rattle.made_done.proofs.Leaves.{leaves}
use Rattle.name_changes.specs.Makes.{cannot_make, make_wanted, room_to_make}
use Rattle.name_changes.proofs.OutcomeLaws.{make-found, make-refused}
use Rattle.tree_ops.specs.Edits.{MakesNamed, create_edit}
use Rattle.tree_ops.specs.Wanted.{machine_on}
use Rattle.tree_ops.proofs.EditBy.{IsEditBy, IsLed, LeavesSo, state_with}

-- what is wanted is one place
ok-same : (r : Result Place No) (p q : Place) → r ≡ Ok p → r ≡ Ok q → p ≡ q
ok-same r p q first second = cc

module _ (directory : Bool) (view : VolumeView) (opens : List OpenEntry) (now session : ℕ) (path : List (List ℕ)) where
  abbrev m : Machine
  m = machine_on view opens now

  abbrev command : Command
  command = made_command directory path

  -- THE PLACE that is wanted, in a directory where the name can come
  abbrev if_made : Place → Result ℕ No
  if_made p =
      if cannot_make view p.directory p.name then Err no.Unbuilt else if_room (room_to_make view directory p.directory) p.directory

  record IsWanted (dir : ℕ) : Type 0 where
    place : Place
    is : place_wanted (read view) path ≡ Ok place
    parent : place.directory ≡ dir

  wanted : (dir : ℕ) → make_wanted view directory path ≡ Ok dir → IsWanted dir
  wanted dir is = by (place_wanted (read view) path) refl is
    where
      last : (d : ℕ) (b : Bool) (o : Option No) → (if b then Err no.Unbuilt else if_room o d) ≡ Ok dir → d ≡ dir
      last d true o e = cc
      last d false None e = cc
      last d false (Some why) e = cc

      by : (r : Result Place No) → place_wanted (read view) path ≡ r → and_then r if_made ≡ Ok dir → IsWanted dir
      by (Err why) e is = cc
      by (Ok p) e is = record {
        place = p;
        is = e;
        parent = last p.directory (cannot_make view p.directory p.name) (room_to_make view directory p.directory) is;
      }

  -- its words lead to the name there
  led : IsSound view → (facts : Facts) → TellsFacts view facts → (dir : ℕ) → make_wanted view directory path ≡ Ok dir
      → IsLed facts m session command
  led sound facts tells dir is =
      let w = wanted dir is in
      record {
        at = at_name w.place.directory w.place.name;
        is = make-found facts view opens now session path tells sound directory w.place dir w.is is;
      }

  refused : IsSound view → (facts : Facts) → TellsFacts view facts → (why : No) → make_wanted view directory path ≡ Err why
      → due facts m session command ≡ Err why
  unfolding due
  refused sound facts tells why is =
      ap (answered facts m session command) (make-refused facts view opens now session path tells sound directory why is)

  -- it answers that it is done
  answers : (facts : Facts) (at : Located) → answer_of facts m session command at ≡ a.Done
  unfolding answer_of
  answers facts at = by directory
    where
      of-directory : (o : Option Node) → option_map_or (node_answer m.tree (c.Mkdir path) at.file) o a.Done ≡ a.Done
      of-directory None = refl
      of-directory (Some node) = refl

      of-file : (o : Option Node) → option_map_or (node_answer m.tree (c.Create path) at.file) o a.Done ≡ a.Done
      of-file None = refl
      of-file (Some node) = refl

      by : (d : Bool) → answer_of facts m session (made_command d path) at ≡ a.Done
      by true = of-directory at.node
      by false = of-file at.node

  -- WHAT IT LEAVES, staged and written.
  module _ (sound : IsSound view) (facts : Facts) (tells : TellsFacts view facts) (dir : ℕ) (is : make_wanted view directory path ≡ Ok dir)
      (new : VolumeView) (does : MakesNamed directory view new dir path now) where
    -- the place that was found is that one
    same-place : (wanted dir is).place ≡ place_of does.found
    same-place = ok-same (place_wanted (read view) path) (wanted dir is).place (place_of does.found) (wanted dir is).is does.place

    abbrev units : List ℕ
    units = does.found.name.now

    same-at : (led sound facts tells dir is).at ≡ at_name dir units
    unfolding led
    same-at = ap (λ (p : Place). at_name p.directory p.name) same-place ∙ ap (λ d. at_name d units) does.parent

    module _ (image : List ℕ) (count : ℕ) (stands : Stands (state_with image view opens now count)) (flag : Flag) (marked : Bool)
        (spans : List Span) (staged written : List ℕ) (long : length staged ≡ length image)
        (told : new ≡ told_view (sector_in (Some staged)) view.layout) (place : IsPlaceOf view image flag marked spans)
        (finished : IsFinished flag marked spans staged written) where
      abbrev state : State
      state = state_with image view opens now count

      abbrev node : Node
      node = does.makes.node

      finds : FindsPlace directory facts state session path dir units node
      finds = record {
        stands = stands;
        told = tells;
        found = (led sound facts tells dir is).is ∙ ap Ok same-at;
        can = subst (λ d. CanMake view d node units) does.parent does.makes.can;
        high = subst (λ d. (name : FileName) → Contains (names_of (records_of view) d) name → 4 ≤ name.parent.number) does.parent
            does.makes.high;
      }

      stages : StagesUnder directory state dir units node does.makes.made staged
      stages = record {
        long = long;
        makes =
            subst (λ d. MakesUnder directory view (told_view (sector_in (Some staged)) view.layout)
            (read view) now d units node does.makes.made)
            does.parent
            (subst (λ w. MakesUnder directory view w (read view) now
            (does.found.standing.directory.parts.number) units node does.makes.made) told
            does.makes.makes);
      }

      left : LeavesMade directory facts state session path dir units does.makes.made flag staged written
      left = leaves directory facts state session path dir units node does.makes.made flag marked spans staged written
          finds stages place finished

      made-left : LeavesSo facts state session command (led sound facts tells dir is).at does.makes.made
          ((create_edit directory path now).most view new dir) new flag staged written
      made-left =
          subst (λ at. LeavesSo facts state session command at does.makes.made
          ((create_edit directory path now).most view new dir) new flag staged written)
          (sym same-at)
          (subst (λ w. LeavesSo facts state session command (at_name dir units) does.makes.made
          ((create_edit directory path now).most view w dir) w flag
          staged written) (left.is ∙ sym told) (record {
            volume = left.volume;
            sound = left.sound;
            reading = left.reading;
            flag_there = left.flag_there;
            agrees = left.agrees;
            stored = left.stored;
            done = λ next image_is volume moved wrote. left.done next image_is volume moved (omega (arith, wrote));
          }))

-- it is an edit, and changes no open and no moment
edits : (directory : Bool) (path : List (List ℕ)) → is_edit (made_command directory path) ≡ true
edits true path = refl
edits false path = refl

opens-stay : (directory : Bool) (path : List (List ℕ)) (m : Machine) (session : ℕ) (at : Located) (made : ℕ)
    → (after m session (made_command directory path) at made).opens ≡ m.opens
unfolding opens_after
opens-stay true path m session at made = refl
opens-stay false path m session at made = refl

moment-stays : (directory : Bool) (path : List (List ℕ)) (m : Machine) (session : ℕ) (at : Located) (made : ℕ)
    → (after m session (made_command directory path) at made).now ≡ m.now
moment-stays true path m session at made = refl
moment-stays false path m session at made = refl

-- IT IS THAT OF THE COMMAND
pub create-by : (directory : Bool) (opens : List OpenEntry) (now session : ℕ) (path : List (List ℕ)) (view : VolumeView)
    → IsEditBy view opens now session (made_command directory path) (create_edit directory path now)
create-by directory opens now session path view = record {
  is = edits directory path;
  found = λ told sound facts tells dir is. led directory view opens now session path sound facts tells dir is;
  refused = λ told sound facts tells why is. refused directory view opens now session path sound facts tells why is;
  answers = λ facts at. answers directory view opens now session path facts at;
  does = λ told sound facts tells dir is new does. record {
    made = does.makes.made;
    leaves = λ image count stands shown flag marked spans staged written long same place finished.
        made-left directory view opens now session path sound facts tells dir is new does image count stands flag
        marked spans staged written
        long same place finished;
  };
  opens_stay = opens-stay directory path (machine_on view opens now) session;
  moment_stays = moment-stays directory path (machine_on view opens now) session;
}
