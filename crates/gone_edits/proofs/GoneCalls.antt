-- A FILE GONE WITH ITS ONE NAME as calls on names and files.
use Rattle.std.proofs.Common.{◌≡◌, ◌≢◌, ◌<◌, ◌==◌, ◌*◌, ◌||◌, ℕ, Bool, true, false, List, [], ◌∷◌, Some, cond, filter, map, if◌then◌else◌}
use Rattle.std.proofs.Common.{refl, sym, ap, subst, ◌∙◌}
use Rattle.std.specs.List.{All, Contains}
use Rattle.std.specs.Prelude.{option_map}
use Rattle.std.proofs.lemmas.Bool.{and_left, eq-eqb, or_from, or_parts}
use Rattle.list_laws.specs.SameItems.{SameItems}
use Rattle.list_laws.proofs.MemberLaws.{All-from_Contains, Contains-filter, Contains-filter_map, Contains-nil}
use Rattle.list_laws.proofs.SameItemsLaws.{SameItems-same, SameItems-sym}
use Rattle.ntfs_def.specs.FileName.{FileName, name_in}
use Rattle.ntfs_def.specs.declared.kinds.TheConstants.{FILE_NAME}
use Rattle.volume_def.specs.FileNames.{is_file_name, names_of}
use Rattle.volume_def.specs.Files.{Part, content_value, parts, records_of}
use Rattle.volume_def.specs.LinksClause.{is_dos_in}
use Rattle.volume_def.specs.Table.{TableLayout}
use Rattle.volume_def.specs.Values.{is_first}
use Rattle.volume_def.specs.View.{VolumeView}
use Rattle.mft_table.specs.declared.mounted.Mounted.{Mounted}
use Rattle.tree_model.specs.declared.tree.Node.{Node}
use Rattle.edit_def.specs.Account.{nothing}
use Rattle.edit_def.specs.Edited.{Edited, is_room_key}
use Rattle.edit_def.specs.Items.{KeepsItems}
use Rattle.edit_def.specs.Kept.{Told, either, is_name_told, told_by, told_names}
use Rattle.edit_def.specs.Marks.{AreRight, Marks}
use Rattle.edit_def.specs.Names.{KeepsOthers, Numbers, gone_names, is_only_long, numbers_at, numbers_in}
use Rattle.edit_def.proofs.EditedLaws.{Edited-then}
use Rattle.edit_def.proofs.IndexLaws.{items-kept, items-of-directory}
use Rattle.record_edits.specs.Between.{IsReady}
use Rattle.record_calls.specs.Edits.{record_there}
use Rattle.record_calls.specs.Marks.{marks_of}
use Rattle.name_edits.proofs.NamesInTurn.{KeepsNames-then}
use Rattle.command_edits.specs.Calls.{ChangesIndex, DropsLink, DropsLinks, DropsNode}
use Rattle.command_edits.specs.Commands.{LosesLinks}
use Rattle.command_edits.specs.Keys.{is_index_key_of, is_key_of, is_name_key_of}
use Rattle.command_edits.proofs.CallKeys.{within-nothing}
use Rattle.command_edits.proofs.CallsMade.{Edited-more, within-same}
use Rattle.made_edits.proofs.KeyLaws.{no-name}
use Rattle.made_edits.proofs.WantLaws.{nothing-first}
use Rattle.gone_edits.specs.Goes.{CanGo, GoesUnder, QuitsName}
use Rattle.gone_edits.specs.Gone.{IsGoneByCalls, is_gone_key}
use Rattle.gone_edits.specs.Wants.{going_wants}
use Rattle.gone_edits.proofs.Before as before
use Rattle.gone_edits.proofs.Exited.{Exited}
use Rattle.gone_edits.proofs.FileFreed.{Freed, drops-node, ready-new, records-new}
use Rattle.gone_edits.proofs.ItemFound.{HasItemOf, item-found}
use Rattle.gone_edits.proofs.NameGone.{Unnamed, some-value}
use Rattle.gone_edits.proofs.Steps as steps

-- Of one name that is no DOS name it alone goes.
gone-alone : (name : FileName) → is_dos_in name.parent.number name ≡ false → gone_names (name ∷ []) name ≡ name ∷ []
gone-alone name free = by (is_only_long (name ∷ []) name)
  where
    by : (b : Bool) → name ∷ (if b then filter (is_dos_in name.parent.number) (name ∷ []) else []) ≡ name ∷ []
    by true = ap (λ b. name ∷ cond b (name ∷ []) []) free
    by false = refl

-- two keys the other way round
or-swapped : (a b : Bool) → (a || b) ≡ false → (b || a) ≡ false
or-swapped a b e = let p = or_parts a b e in or_from b a p.1 p.0

module _ (old new : VolumeView) (was now : Mounted) (n : ℕ) (node parent : Node) (name : FileName)
    (can : CanGo old n name.parent.number node parent name) (right : AreRight old (marks_of was))
    (u : GoesUnder old new was now n name.parent.number name) where
  abbrev dir : ℕ
  dir = name.parent.number

  abbrev marks : Marks
  marks = marks_of was

  abbrev after : Marks
  after = marks_of now

  abbrev left : VolumeView
  left = u.left

  abbrev counted : VolumeView
  counted = u.counted

  abbrev q : QuitsName u.left u.counted n
  q = u.quits

  -- THE ENTRY
  pub gone : Exited old left marks dir u.key
  gone = steps.gone old left was n node parent name u.key can right u.exits

  pub found : HasItemOf old n (record_there old n).header.sequence name u.key (before.index old was n node parent name can right).items
  found = item-found old n (record_there old n) (before.there old was n node parent name can right) can.one.base name
      (before.among old was n node parent name can right) (before.index old was n node parent name can right) u.key u.key_is

  pub changes : ChangesIndex nothing old left marks marks dir (found.item ∷ []) []
  changes = gone.changes (before.index old was n node parent name can right).items found.item
      (items-of-directory old dir (before.index old was n node parent name can right)) found.at

  -- THE NAME
  pub quit : Unnamed left u.quits.unnamed counted marks n name
  quit = steps.quit old left was n node parent name u.key can right u.exits counted q

  pub keeps : KeepsItems left counted dir
  keeps = items-kept (either is_room_key (is_name_key_of n)) left counted quit.edited.kept
      (λ i. 512 * quit.edited.volume.cluster_sectors i) gone.entered.ready.bases gone.entered.ready.editable.readable
      quit.ready.editable.readable refl dir refl refl refl

  abbrev numbers : Numbers
  numbers = numbers_in (record_there old n)

  numbers-counted : numbers_at (records_of counted) n ≡ Some (record numbers { links = 0 })
  numbers-counted = quit.numbers numbers
      ((gone.entered.names_kept n).numbers ∙ before.numbers-was old was n node parent name can right)

  counted-one : numbers ≡ record numbers { links = 1 }
  counted-one =
      let one = before.one-link old was n node parent name can right in
      λ i. record { sequence = numbers.sequence; links = one i; directory = numbers.directory }

  pub others-kept : KeepsOthers (records_of old) (records_of counted) n
  others-kept g ne =
      KeepsNames-then (records_of old) (records_of left) (records_of counted) g (gone.entered.names_kept g) (quit.others g ne)

  told-left : told_names left n ≡ told_names old n
  told-left = ap (λ (ps : List Part). filter is_name_told (map told_by (filter is_first ps)))
      (steps.own-left old left was n node parent name u.key can right u.exits)

  pub drops : DropsLink nothing old counted marks marks n name
  drops = record {
    edited = Edited-more (either (is_index_key_of dir) (is_name_key_of n)) (either (is_name_key_of n) (is_index_key_of dir)) nothing nothing
        old counted marks marks (λ key free. or-swapped (is_name_key_of n key) (is_index_key_of dir key) free) (within-same nothing)
        (Edited-then (is_index_key_of dir) (is_name_key_of n) nothing nothing nothing old left counted marks marks marks
        (within-nothing nothing) changes.edited quit.edited);
    loses = record {
      others = λ g ne. record {
        numbers = sym (others-kept g ne).numbers;
        names = SameItems-sym _ _ (others-kept g ne).names;
      };
      was = record numbers { links = 0 };
      was_at = numbers-counted;
      now_at = before.numbers-was old was n node parent name can right ∙ ap (λ (k : Numbers). Some k) counted-one;
      names = SameItems-same _ _ (ap (λ xs. name ∷ xs) quit.nameless ∙ sym can.only);
    };
    value = quit.value;
    value_name = quit.value_name;
    values = subst (λ (xs : List Told). SameItems (quit.value ∷ told_names counted n) xs) told-left quit.values;
    item = found.item;
    link = found.link;
    entry = λ items h. let did = changes.entry items h in (did.0, keeps did.0 did.1, did.2);
  }

  pub loses-one : DropsLinks n (name ∷ []) nothing old counted marks marks
  loses-one = (nothing, nothing, within-nothing nothing, counted, marks, drops, (refl, refl))

  pub only-gone : gone_names (names_of (records_of old) n) name ≡ name ∷ []
  only-gone =
      ap (λ all. gone_names all name) can.only
      ∙ gone-alone name (and_left _ (name.parent.number == name.parent.number) (before.no-dos old was n node parent name can right))

  pub loses : LosesLinks nothing old counted marks marks n name
  loses = record {
    node = node;
    there = can.there;
    away = before.away old was n node parent name can right;
    parent = parent;
    there_parent = can.directory.there;
    among = before.among old was n node parent name can right;
    plain = before.no-dos old was n node parent name can right;
    drops = subst (λ gone. DropsLinks n gone nothing old counted marks marks) (sym only-gone) loses-one;
  }

  -- THE RECORD
  nameless : All (λ (part : Part). part.kind ≢ FILE_NAME) (record_there counted n).parts
  unfolding names_of
  nameless = All-from_Contains (λ (part : Part). part.kind ≢ FILE_NAME) (record_there counted n).parts (λ part c is.
      let its = subst (λ xs. Contains xs part) (sym quit.alone.whole) c in
      let value = some-value (content_value part.content)
      (steps.values-counted old left was n node parent name u.key can right u.exits counted q part its) in
      Contains-nil (name_in value.0) (subst (λ xs. Contains xs (name_in value.0)) quit.nameless
      (Contains-filter_map (λ (part : Part). option_map name_in (content_value part.content))
      (filter is_file_name (parts (records_of counted) n)) part (name_in value.0)
      (Contains-filter is_file_name (parts (records_of counted) n) part its (eq-eqb part.kind FILE_NAME is))
      (ap (option_map name_in) value.1))))

  pub free : Freed counted u.frees.freed marks after n
  free = steps.free old left was n node parent name u.key can right u.exits counted q u.frees.freed now u.frees.frees u.frees.given

  inside : n < u.frees.freed.layout.count
  inside = subst (λ (l : TableLayout). n < l.count) (sym u.frees.frees.replaces.layout)
      (steps.inside-counted old left was n node parent name u.key can right u.exits counted q)

  pub goes : DropsNode (going_wants n) counted new marks after n
  goes = drops-node counted u.frees.freed new marks after n can.ordinary inside free u.frees.clears nameless

  pub ready : IsReady new after
  ready = ready-new counted u.frees.freed new marks after n can.ordinary inside free u.frees.clears

  pub records-now : records_of new ≡ records_of u.frees.freed
  records-now = records-new counted u.frees.freed new marks after n can.ordinary inside free u.frees.clears

  -- ALL OF THEM
  pub edited : Edited (is_gone_key n dir) (going_wants n) old new marks after
  edited =
      Edited-more (either (either (is_name_key_of n) (is_index_key_of dir)) (is_key_of n)) (is_gone_key n dir) (going_wants n)
      (going_wants n) old new marks after
      (λ key free.
      let p = or_parts (is_key_of n key) (is_index_key_of dir key) free in
      or_from (is_name_key_of n key || is_index_key_of dir key) (is_key_of n key)
      (or_from (is_name_key_of n key) (is_index_key_of dir key) (no-name n key p.0) p.1) p.0)
      (within-same (going_wants n))
      (Edited-then (either (is_name_key_of n) (is_index_key_of dir)) (is_key_of n) nothing (going_wants n) (going_wants n) old counted new
      marks marks after (nothing-first (going_wants n)) drops.edited goes.edited)

  pub gone-calls : IsGoneByCalls old new marks after n dir name
  gone-calls = record { mid = counted; loses = loses; goes = goes; edited = edited }
