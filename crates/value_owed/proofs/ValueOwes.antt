-- WHAT THE COMMAND OWES, each part of it carried back over the edit of the stream; and so what it leaves.
use Rattle.std.proofs.Common.{◌≡◌, ◌⊎◌, ◌+◌, ◌*◌, ◌/◌, ◌<◌, ◌≤◌, ◌==◌, ◌&&◌, ◌||◌, ℕ, Bool, true, false, [], ◌∷◌, codes, refl, sym, ap}
use Rattle.std.proofs.Common.{subst}
use Rattle.std.proofs.Common.{◌∙◌, arith, inl, inr, length, not}
use mathlib.Core.Path.{fun_ext}
use Rattle.std.specs.List.{range_with_len}
use Rattle.std.specs.Prelude.{count_by, nat_le}
use Rattle.std.proofs.lemmas.Bool.{eq-eqb, or_from, or_parts}
use Rattle.ntfs_def.specs.Units.{units_in}
use Rattle.ntfs_def.specs.declared.kinds.TheConstants.{DATA}
use Rattle.ntfs_def.specs.declared.records.TheConstants.{CLUSTER_BITMAP, MFT, VOLUME}
use Rattle.volume_def.specs.Files.{file_of, parts_at}
use Rattle.volume_def.specs.Room.{unused_records}
use Rattle.volume_def.specs.StreamSize.{told_size}
use Rattle.volume_def.specs.Table.{cluster_bytes}
use Rattle.volume_def.specs.Values.{first_part, spot_at}
use Rattle.volume_def.specs.View.{VolumeView}
use Rattle.tree_model.specs.Bill.{bill_of, changes_of, dropped_links}
use Rattle.tree_model.specs.IndexRoom.{directory_index, object_id_index, point_index}
use Rattle.tree_model.specs.Reading.{read}
use Rattle.tree_model.specs.StreamRoom.{is_cluster, parts_named}
use Rattle.tree_model.specs.Subjects.{Located}
use Rattle.tree_model.specs.Tree.{Tree}
use Rattle.tree_model.specs.declared.command.Command.{Command}
use Rattle.tree_model.specs.declared.command.Command.TheVariants as c
use Rattle.edit_def.specs.Kept.{Key, key_of}
use Rattle.session_def.specs.Cost.{bytes_in, cost_of, given_back, is_changed_file, is_file_of, is_owned, need_for}
use Rattle.session_def.specs.Done.{GainsRightly, LeavesDone, first_cost, may_own, stream_in}
use Rattle.session_def.specs.Indexes.{KeepsIndexes, KeepsRests}
use Rattle.session_def.specs.Named.{changes_ids, changes_points, has_entry_of, is_one_of, timed}
use Rattle.session_def.specs.Owed.{Owes}
use Rattle.session_def.specs.Room.{KeepsBlocks, is_written_file}
use Rattle.session_def.specs.State.{State}
use Rattle.session_def.proofs.OwedLaws.{leaves-done}
use Rattle.value_edits.proofs.RoomSame as room
use Rattle.value_edits.specs.SetsInPlace.{links_of}
use Rattle.value_edits.proofs.EntriesOwed.{rests-owed}
use Rattle.value_edits.proofs.InPlaceCommands.{timed-one}
use Rattle.value_edits.proofs.IndexesSet.{directory-owed, extend-owed, index-named}
use Rattle.value_edits.proofs.Owes as setting
use Rattle.value_edits.proofs.EditedRecord as value
use Rattle.value_edits.proofs.GivenCount.{most-taken}
use Rattle.value_owed.specs.ValueOwed.{SetsBehindValue, between, taken_in}
use Rattle.value_owed.proofs.IndexesBack as indexes
use Rattle.value_owed.proofs.NodesBack as nodes
use Rattle.value_owed.proofs.RecordsBack as back
use Rattle.value_owed.proofs.ValueCalls as calls
use Rattle.value_owed.proofs.ValueCommands.{value-little, value-timed}
use Rattle.value_owed.proofs.ValueCost.{cost-taking, need-least}
use Rattle.value_owed.proofs.ValueSame as same
use Rattle.value_owed.proofs.ValueSame.{never}
use Rattle.value_owed.proofs.ValueStream as stream

-- a file whose records are not written by one is not by the other, if less is changed
written-less : (more less : ℕ → Bool) (f : ℕ) → (more f ≡ false → less f ≡ false) → is_written_file more f ≡ false
    → is_written_file less f ≡ false
written-less more less f give free =
    let a = or_parts (f == MFT) _ free in
    let b = or_parts (f == VOLUME) _ a.1 in
    let d = or_parts (f == CLUSTER_BITMAP) (more f) b.1 in
    or_from (f == MFT) _ a.0 (or_from (f == VOLUME) _ b.0 (or_from (f == CLUSTER_BITMAP) (less f) d.0 (give d.1)))

module _ (before next : State) (command : Command) (at : Located) (mid staged : VolumeView)
    (s : SetsBehindValue before next command at mid staged) where
  abbrev old : VolumeView
  old = before.view

  abbrev new : VolumeView
  new = next.view

  abbrev tree : Tree
  tree = before.machine.tree

  abbrev key : Key
  key = key_of at.file DATA s.name

  abbrev half : State
  half = between before command mid

  abbrev setter : Command
  setter = c.Setattr [] 0

  -- THE FILES of which records may change
  abbrev files : ℕ → ℕ → Bool
  files made = is_changed_file old tree next.machine.tree command at made

  itself : (made : ℕ) → files made at.file ≡ true
  itself made =
      let own : is_one_of (timed command at made) at.file ≡ true =
      ap (λ xs. is_one_of xs at.file) (value-timed command at made s.edits s.new) ∙ ap (λ b. b || false) (eq-eqb at.file at.file refl) in
      ap (λ b. b || has_entry_of tree (timed command at made) at.file || has_entry_of next.machine.tree (timed command at made) at.file
      || (changes_points tree command at && is_file_of (point_index old) at.file)
      || (changes_ids tree command at && is_file_of (object_id_index old) at.file)) own

  set-less : (made f : ℕ) → files made f ≡ false → is_changed_file mid (read mid) next.machine.tree setter at made f ≡ false
  set-less made f free =
      let all = timed command at made in
      let one = value-timed command at made s.edits s.new in
      let set : timed setter at made ≡ at.file ∷ [] = timed-one setter at made refl s.new in
      let front = is_one_of all f || has_entry_of tree all f in
      let a = or_parts (front || has_entry_of next.machine.tree all f || (changes_points tree command at && is_file_of (point_index old) f))
      (changes_ids tree command at && is_file_of (object_id_index old) f) free in
      let b = or_parts (front || has_entry_of next.machine.tree all f)
      (changes_points tree command at && is_file_of (point_index old) f) a.0 in
      let d = or_parts front (has_entry_of next.machine.tree all f) b.0 in
      let k = or_parts (is_one_of all f) (has_entry_of tree all f) d.0 in
      let was : has_entry_of (read mid) (at.file ∷ []) f ≡ false =
      calls.entries-same before next command at mid staged s (at.file ∷ []) f ∙ subst (λ xs. has_entry_of tree xs f ≡ false) one k.1 in
      let own : is_one_of (at.file ∷ []) f ≡ false = subst (λ xs. is_one_of xs f ≡ false) one k.0 in
      let now : has_entry_of next.machine.tree (at.file ∷ []) f ≡ false =
      subst (λ xs. has_entry_of next.machine.tree xs f ≡ false) one d.1 in
      subst (λ xs. ((((is_one_of xs f || has_entry_of (read mid) xs f) || has_entry_of next.machine.tree xs f) || false) || false) ≡ false)
      (sym set)
      (or_from _ false (or_from _ false (or_from _ _ (or_from (is_one_of (at.file ∷ []) f) _ own was) now) refl) refl)

  blocks : (made : ℕ) → KeepsBlocks (files made) old new
  blocks made =
      let set = (setting.owes half next setter at made staged s.behind).blocks in
      back.blocks-back key old mid s.stands.sound (calls.apart before next command at mid staged s) s.edited.edits new (files made)
      (itself made)
      (λ n r there other. set n r there (written-less (files made) (is_changed_file mid (read mid) next.machine.tree setter at made)
      (file_of n r) (set-less made (file_of n r)) other))

  -- CLUSTERS: no stream gained one but the command's, which has those that it had between.
  stream-spelt : (view : VolumeView) → parts_named view at.file (units_in s.name) ≡ stream_in view tree at
  stream-spelt view = ap (parts_named view at.file) s.spelt_so

  gained-spots : (vcn : ℕ) → is_cluster (spot_at (stream_in new tree at) vcn) ≡ true
      → (is_cluster (spot_at (stream_in old tree at) vcn) ≡ true) ⊎ (s.gains vcn ≡ true)
  gained-spots vcn is =
      elim (stream.spots-behind at.file s.name old mid s.stands.sound (calls.apart before next command at mid staged s) s.edited.edits
      s.alone (nodes.named before next command at mid staged s) new (nodes.behind before next command at mid staged s) vcn
      (ap (λ xs. is_cluster (spot_at xs vcn)) (stream-spelt new) ∙ is)) [
        | inl had ↦ inl (sym (ap (λ xs. is_cluster (spot_at xs vcn)) (stream-spelt old)) ∙ had)
        | inr got ↦ inr got
      ]

  size-next : cluster_bytes new.layout ≡ cluster_bytes old.layout
  size-next =
      stream.size-next at.file s.name old mid s.stands.sound (calls.apart before next command at mid staged s) s.edited.edits s.alone
      (nodes.named before next command at mid staged s) new (nodes.behind before next command at mid staged s)

  clusters : GainsRightly before next command at
  clusters = record {
    ends = λ f kind name plain vcn gained.
        let its = stream.gained-behind at.file s.name old mid s.stands.sound (calls.apart before next command at mid staged s)
        s.edited.edits s.alone (nodes.named before next command at mid staged s) new (nodes.behind before next command at mid staged s) f
        kind name vcn gained.0 gained.1 in
        subst (λ n. vcn * n < told_size (first_part (parts_at new f kind name))) (sym size-next)
        (subst (λ n. vcn * cluster_bytes old.layout < n) (sym its.1) (s.below vcn its.0));
    gains = λ vcn gained. elim (gained-spots vcn gained.0) [
      | inl had ↦ absurd (never had gained.1)
      | inr got ↦ s.counted vcn got
    ];
    owned = λ vcn.
        subst (λ xs. is_cluster (spot_at xs vcn) ≡ true → may_own (cluster_bytes new.layout) command (told_size (first_part xs)) vcn ≡ true)
        (stream-spelt new)
        (stream.owned-behind at.file s.name old mid s.stands.sound (calls.apart before next command at mid staged s) s.edited.edits s.alone
        (nodes.named before next command at mid staged s) new (nodes.behind before next command at mid staged s) command s.owned vcn);
  }

  -- INDEXES
  indexes-kept : (made : ℕ) → KeepsIndexes old new tree next.machine.tree command at made
  indexes-kept made =
      let lies = calls.apart before next command at mid staged s in
      let no_case = calls.no_case before next command at mid staged s in
      let changes = changes_of old tree command at in
      record {
        keys = λ dir was now is has becomes.
            subst (λ all. KeepsRests new all (dropped_links tree command at) was now) (sym (value-timed command at made s.edits s.new))
            (subst (λ gone. KeepsRests new (at.file ∷ []) gone was now) (sym (value-little tree command at s.edits).drops)
            (rests-owed half next setter at staged s.behind dir was now
            (back.directory-still key old mid s.stands.sound lies s.edited.edits new dir is)
            (indexes.items-still key old mid s.stands.sound lies s.edited.edits no_case s.edited.can.sound dir was has) becomes));
        directories = λ dir.
            indexes.index-back key old mid s.stands.sound lies s.edited.edits no_case s.edited.can.sound new changes (directory_index dir)
            refl (directory-owed half next setter at staged s.behind [] dir);
        points = λ index found.
            indexes.index-back key old mid s.stands.sound lies s.edited.edits no_case s.edited.can.sound new changes index
            (ap (λ n. length n == 0) (index-named new (codes "$Reparse") (codes "$R") index found))
            (extend-owed half next setter at staged s.behind [] (codes "$Reparse") (codes "$R") refl refl index found);
        object_ids = λ index found.
            indexes.index-back key old mid s.stands.sound lies s.edited.edits no_case s.edited.can.sound new changes index
            (ap (λ n. length n == 0) (index-named new (codes "$ObjId") (codes "$O") index found))
            (extend-owed half next setter at staged s.behind [] (codes "$ObjId") (codes "$O") refl refl index found);
      }

  -- THE COST
  links-same : links_of (read mid) at.file ≡ links_of tree at.file
  links-same = ap (λ (t : Tree). links_of t at.file) s.edited.reads ∙ ap (λ (t : Tree). links_of t at.file) s.stands.reading

  -- the clusters that were given back have no owner behind it either
  given-same : given_back old new ≡ given_back old mid
  unfolding given_back
  given-same =
      ap (λ p. count_by p (range_with_len 0 old.layout.clusters)) (fun_ext (λ cluster.
      ap (λ n. is_owned old cluster && not (nat_le 1 n))
      (room.times-same (nodes.named before next command at mid staged s) mid new (nodes.behind before next command at mid staged s)
      cluster)))

  -- those that were taken are on the bill
  few-taken : taken_in old mid ≤ need_for old tree command at
  few-taken =
      let edits = s.edited.edits in
      let most = most-taken old mid edits.given edits.taken
      (value.owned-now key old mid s.stands.sound (calls.apart before next command at mid staged s) edits) in
      let billed = calls.billed before next command at mid staged s in
      let need = need-least (cluster_bytes old.layout) (unused_records old) (bill_of old tree command at) in
      omega (arith, most, billed, need)

  wrote : (made : ℕ) → next.written ≤ before.written + first_cost old + cost_of old new tree next.machine.tree command at made
  wrote made =
      let cost = cost-taking before next command at made s.stands.sound s.stands.reading (value-little tree command at s.edits)
      (value-timed command at made s.edits s.new) in
      let set : next.written ≤ before.written + bytes_in command / 512 + 2 * given_back old mid + 2 * taken_in old mid + first_cost mid + 24
      + 12 * links_of (read mid) at.file + 0 =
      s.behind.wrote in
      let first = same.first_cost-same key old mid s.stands.sound (calls.apart before next command at mid staged s) s.edited.edits in
      let links = links-same in
      let back = given-same in
      let taken = few-taken in
      omega (arith, cost, set, first, links, back, taken)

  pub owes : (made : ℕ) → Owes before next command at made
  owes made =
      let lies = calls.apart before next command at mid staged s in
      let no_case = calls.no_case before next command at mid staged s in
      let set = setting.owes half next setter at made staged s.behind in
      record {
        long = s.behind.long;
        named = nodes.of-named before next command at mid staged s made;
        clusters = clusters;
        nodes = nodes.nodes before next command at mid staged s made;
        indexes = indexes-kept made;
        blocks = blocks made;
        unused = back.unused-back key old mid s.stands.sound lies s.edited.edits new set.unused;
        copies = back.copies-back key old mid s.stands.sound lies s.edited.edits new set.copies;
        made_forms = λ f. back.forms-back key old mid s.stands.sound lies s.edited.edits new f (set.made_forms f);
        lists = λ f. back.order-back key old mid s.stands.sound lies s.edited.edits new
            (indexes.fold-same key old mid s.stands.sound lies s.edited.edits no_case s.edited.can.sound) f (set.lists f);
        log_end = back.log_end-back key old mid s.stands.sound lies s.edited.edits new set.log_end;
        wrote = wrote made;
      }

  pub leaves : (made : ℕ) → LeavesDone before next command at made
  leaves made = leaves-done before next command at made (calls.calls before next command at mid staged s made) (owes made)
