-- NODES AND NAMES behind the whole edit: DOS flags, numbers and names are as they were, and the stream keeps its header.
use Rattle.std.proofs.Common.{◌≡◌, ◌==◌, ◌&&◌, not, ℕ, Bool, true, false, List, [], ◌∷◌, length, map, Option, Some, None, codes}
use Rattle.std.proofs.Common.{inl, refl, sym, ap, subst, ◌∙◌, arith, if◌then◌else◌}
use Rattle.std.specs.List.{Contains, list_any}
use Rattle.std.specs.Prelude.{is_some}
use Rattle.ntfs_def.specs.Node.{Item}
use Rattle.ntfs_def.specs.Units.{wide}
use Rattle.ntfs_def.specs.declared.kinds.TheConstants.{DATA, FILE_NAME, STANDARD_INFORMATION}
use Rattle.volume_def.specs.Files.{parts_at, records_of}
use Rattle.volume_def.specs.Readable.{IsDirectory}
use Rattle.volume_def.specs.Values.{first_part}
use Rattle.volume_def.specs.View.{VolumeView}
use Rattle.tree_model.specs.Bill.{dropped_links}
use Rattle.tree_model.specs.Drops.{is_link}
use Rattle.tree_model.specs.IndexRoom.{extend_index, is_object_id_item, is_point_item, object_id_index, point_index}
use Rattle.tree_model.specs.Reading.{read}
use Rattle.tree_model.specs.StreamRoom.{parts_named}
use Rattle.tree_model.specs.Subjects.{Located, NewName}
use Rattle.tree_model.specs.declared.command.Command.{Command}
use Rattle.tree_model.specs.declared.command.Command.TheVariants as c
use Rattle.edit_def.specs.Items.{HasItems}
use Rattle.edit_def.specs.Kept.{Key, Told, key_of, told_names}
use Rattle.edit_def.specs.Names.{Numbers, numbers_at}
use Rattle.session_def.specs.Done.{KeepsOfNamed, added_links, point_added}
use Rattle.session_def.specs.Kept.{KeepsEntries, KeepsKeys, KeepsStandard, link_told}
use Rattle.session_def.specs.Named.{main_file, timed}
use Rattle.session_def.specs.Nodes.{ComesRightly, IsRightName, KeepsDosFlags, KeepsNodes, KeepsStream, flag_of, has_link_told}
use Rattle.session_def.specs.Nodes.{is_directory_node}
use Rattle.session_def.specs.State.{State}
use Rattle.value_edits.specs.InPlace.{Rewrites}
use Rattle.value_edits.specs.Unnamed.{KeepsMarks}
use Rattle.value_edits.proofs.OwedInPlace as owed
use Rattle.value_edits.proofs.RoomSame as room
use Rattle.value_edits.proofs.BothRewrites.{both, either-kind, is_either_key}
use Rattle.value_edits.proofs.EntriesOwed.{entries-first, items-back}
use Rattle.value_edits.proofs.NamedOwed.{named-owed}
use Rattle.value_edits.proofs.Owes as setting
use Rattle.value_edits.proofs.StandardOwed.{flag-same, marks-owed, standard-owed}
use Rattle.value_owed.specs.ValueOwed.{SetsBehindValue, between, edits_value}
use Rattle.value_owed.proofs.IndexesBack as indexes
use Rattle.value_owed.proofs.RecordsBack as back
use Rattle.value_owed.proofs.ValueCalls as calls
use Rattle.value_owed.proofs.ValueCommands.{value-lengthens, value-little, value-timed}
use Rattle.value_owed.proofs.ValueSame as same
use Rattle.value_owed.proofs.ValueSame.{never}
use Rattle.value_owed.proofs.ValueStream as stream

same-flag : (b : Bool) (x y : ℕ) → x ≡ y → x ≡ (if b then y else y)
same-flag true x y e = e
same-flag false x y e = e

standard-no-data : STANDARD_INFORMATION ≡ DATA → ⊥
standard-no-data q = omega (arith, q)

some-numbers : (a b : Numbers) → ◌≡◌ {A = Option Numbers} (Some a) (Some b) → a ≡ b
some-numbers a b e = cc

module _ (before next : State) (command : Command) (at : Located) (mid staged : VolumeView)
    (s : SetsBehindValue before next command at mid staged) where
  abbrev old : VolumeView
  old = before.view

  abbrev new : VolumeView
  new = next.view

  abbrev key : Key
  key = key_of at.file DATA s.name

  abbrev half : State
  half = between before command mid

  abbrev setter : Command
  setter = c.Setattr [] 0

  abbrev pub named : Key → Bool
  named = is_either_key (read mid) setter at

  -- what came behind the edit of the stream, as one rewrite
  pub behind : Rewrites named mid new
  behind = both half next setter at staged s.behind

  standard-same : (f : ℕ) → parts_at mid f STANDARD_INFORMATION [] ≡ parts_at old f STANDARD_INFORMATION []
  standard-same f =
      same.at-kind key old mid s.stands.sound (calls.apart before next command at mid staged s) s.edited.edits f STANDARD_INFORMATION []
      standard-no-data

  names-same : (f : ℕ) → told_names mid f ≡ told_names old f
  names-same = same.told_names-same key old mid s.stands.sound (calls.apart before next command at mid staged s) s.edited.edits

  numbers-same : (f : ℕ) → numbers_at (records_of new) f ≡ numbers_at (records_of old) f
  numbers-same f =
      room.numbers-same named mid new behind f
      ∙ same.numbers-same key old mid s.stands.sound (calls.apart before next command at mid staged s) s.edited.edits f

  -- DOS FLAGS
  marks-kept : (f : ℕ) → KeepsMarks old new f
  marks-kept f =
      let kept = marks-owed half next setter at staged s.behind f in
      record {
        sparse = kept.sparse ∙ flag-same 0x200 old mid f (standard-same f);
        point = kept.point ∙ flag-same 0x400 old mid f (standard-same f);
      }

  flags-kept : (made f : ℕ) → KeepsDosFlags old new before.machine.tree command at made f
  flags-kept made f =
      let marks = marks-kept f in
      let little = value-little before.machine.tree command at s.edits in
      record {
        point = subst (λ n. flag_of 0x400 new f ≡ (if main_file command at made == f then n else flag_of 0x400 old f))
            (sym (little.points (flag_of 0x400 old f)))
            (same-flag (main_file command at made == f) (flag_of 0x400 new f) (flag_of 0x400 old f) marks.point);
        sparse = inl marks.sparse;
        holed = λ unnamed hole none. absurd (stream.holes-none at.file s.name old mid s.stands.sound
            (calls.apart before next command at mid staged s) s.edited.edits s.alone named new behind f DATA [] hole none);
      }

  -- NAMES: none comes
  right-name : (command : Command) → edits_value command ≡ true → (f : ℕ) (directory : Bool) (name : Told)
      → IsRightName mid setter at f directory name → IsRightName old command at f directory name
  right-name (c.Write path stream from bytes) is f directory name right = right
  right-name (c.Hwrite handle from bytes) is f directory name right = right
  right-name (c.Truncate path stream size) is f directory name right = right
  right-name (c.Rmstream path other) is f directory name right = right
  right-name other is f directory name right = cc

  names-come : (f : ℕ) (directory : Bool) → ComesRightly mid new setter at [] f directory
      → ComesRightly old new command at (dropped_links before.machine.tree command at) f directory
  names-come f directory rest = record {
    each = λ name there comes.
        let kept = rest.each name there (ap (λ xs. has_link_told xs f name && true) (names-same f)
        ∙ sym (ap (λ gone. has_link_told (told_names old f) f name && not (list_any (is_link (link_told f name)) gone))
        (value-little before.machine.tree command at s.edits).drops) ∙ comes) in
        (kept.0, right-name command s.edits f directory name kept.1);
  }

  main-is : (made : ℕ) → main_file command at made ≡ at.file
  main-is made = ap (λ b. if b then made else at.file) (value-little before.machine.tree command at s.edits).makes

  pub nodes : (made : ℕ) → KeepsNodes old new before.machine.tree next.machine.tree command at made
  nodes made =
      let little = value-little before.machine.tree command at s.edits in
      let set = (setting.owes half next setter at made staged s.behind).nodes in
      record {
        dos_flags = λ f was now. flags-kept made f;
        main = λ was now is becomes.
            let e = some-numbers now was (sym becomes ∙ numbers-same (main_file command at made) ∙ is) in
            record { directory = ap (λ (n : Numbers). n.directory) e; links = λ counts. ap (λ (n : Numbers). n.links) e };
        fresh = λ makes. absurd (never makes little.makes);
        named = subst (λ f. ComesRightly old new command at (dropped_links before.machine.tree command at) f
            (is_directory_node next.machine.tree f)) (sym (main-is made))
            (names-come at.file (is_directory_node next.machine.tree at.file) set.named);
        sized = λ edits there.
            subst (λ units. is_some (first_part (parts_named new at.file units)) ≡ true
            → KeepsStream new (parts_named old at.file units) (parts_named new at.file units)) s.spelt_so
            (stream.stream-keeps at.file s.name old mid s.stands.sound
            (calls.apart before next command at mid staged s) s.edited.edits s.alone named new behind) there;
        point = little.point new (main_file command at made);
      }

  -- ENTRIES of directories, from the tree before on
  entries-kept : (made dir : ℕ) (was now : List Item) → IsDirectory old dir → HasItems old dir was → HasItems new dir now
      → KeepsEntries new before.machine.tree next.machine.tree (timed command at made) (added_links at.new (main_file command at made))
      was now
  entries-kept made dir was now is has becomes =
      let tree = before.machine.tree in
      let lies = calls.apart before next command at mid staged s in
      let no_case = calls.no_case before next command at mid staged s in
      subst (λ files. KeepsEntries new tree next.machine.tree files (added_links at.new (main_file command at made)) was now)
      (sym (value-timed command at made s.edits s.new))
      (subst (λ (n : NewName). KeepsEntries new tree next.machine.tree (at.file ∷ []) (added_links n (main_file command at made)) was now)
      (sym s.new)
      (entries-first half next setter at staged s.behind tree was now
      (s.entries dir was now (back.directory-still key old mid s.stands.sound lies s.edited.edits new dir is)
      (indexes.items-still key old mid s.stands.sound lies s.edited.edits no_case s.edited.can.sound dir was has)
      (items-back half next setter at staged s.behind dir now becomes))))

  -- KEYS of an index in $Extend
  keys-kept : (units name : List ℕ) → (length (wide name) == 0) ≡ false
      → KeepsKeys mid (extend_index mid units name) new (extend_index new units name) [] None
      → KeepsKeys old (extend_index old units name) new (extend_index new units name) [] None
  keys-kept units name long =
      indexes.keys-back key old mid s.stands.sound (calls.apart before next command at mid staged s) s.edited.edits
      (calls.no_case before next command at mid staged s) s.edited.can.sound units name new long

  -- WHAT IS KEPT of the attributes that the command names
  pub of-named : (made : ℕ) → KeepsOfNamed before next command at made
  of-named made =
      let little = value-little before.machine.tree command at s.edits in
      let set = named-owed half next setter at made staged s.behind in
      record {
        standard = λ f stays.
            subst (λ b. KeepsStandard b (parts_at old f STANDARD_INFORMATION []) (parts_at new f STANDARD_INFORMATION []))
            (sym (value-lengthens old command at f s.edits))
            (subst (λ xs. KeepsStandard false xs (parts_at new f STANDARD_INFORMATION [])) (standard-same f)
            (standard-owed half next setter at staged s.behind f));
        names = λ f stays told there kept.
            owed.names-but named mid new behind (dropped_links before.machine.tree command at) f
            (λ name. either-kind (read mid) setter at (key_of f FILE_NAME name) refl refl refl refl refl) told
            (subst (λ xs. Contains xs told) (sym (names-same f)) there) kept;
        numbers = λ f other. numbers-same f;
        sequence = λ f was now is becomes.
            ap (λ (n : Numbers). n.sequence) (some-numbers now was (sym becomes ∙ numbers-same f ∙ is));
        points =
            subst (λ (tags : List ℕ). KeepsKeys old (point_index old) new (point_index new) (map (is_point_item old at.file) tags)
            (point_added old command at)) (sym little.dropped)
            (subst (KeepsKeys old (point_index old) new (point_index new) []) (sym (little.no_point old))
            (keys-kept (codes "$Reparse") (codes "$R") refl set.points));
        object_ids =
            subst (λ (ids : List (List ℕ)). KeepsKeys old (object_id_index old) new (object_id_index new) (map is_object_id_item ids) None)
            (sym little.ids) (keys-kept (codes "$ObjId") (codes "$O") refl set.object_ids);
        entries = entries-kept made;
      }
