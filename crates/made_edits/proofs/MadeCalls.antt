-- A FILE MADE UNDER ONE NAME as calls on names and files.
use Rattle.std.proofs.Common.{◌≡◌, ◌≤◌, ◌*◌, ◌==◌, ℕ, Bool, false, List, [], ◌∷◌, length}
use Rattle.std.proofs.Common.{filter, refl, sym, ap, subst, ◌∙◌, arith}
use Rattle.std.specs.Prelude.{bit_and}
use Rattle.std.proofs.lemmas.Bool.{ne_eqb, or_from}
use Rattle.vol_bytes.specs.Field.{u32_at, u64_at}
use Rattle.ntfs_def.specs.FileName.{FileName, link_of, name_in}
use Rattle.ntfs_def.specs.Node.{Item}
use Rattle.ntfs_def.specs.StandardInformation.{standard_times}
use Rattle.ntfs_def.specs.declared.kinds.TheConstants.{BITMAP, DATA, INDEX_ALLOCATION, INDEX_ROOT}
use Rattle.ntfs_def.specs.declared.records.TheConstants.{UPCASE}
use Rattle.volume_def.specs.CaseClause.{volume_fold}
use Rattle.volume_def.specs.Files.{Part, is_of, parts, records_of}
use Rattle.volume_def.specs.Freed.{sequence_at_first, stored_sequence}
use Rattle.volume_def.specs.IndexesClause.{IsDirectoryIndex}
use Rattle.volume_def.specs.Table.{cluster_bytes}
use Rattle.volume_def.specs.Values.{first_part}
use Rattle.volume_def.specs.View.{VolumeView}
use Rattle.root_puts.specs.Edit.{IsAbsent}
use Rattle.ntfs_def.specs.KeyOrder.{name_order}
use Rattle.mft_table.specs.declared.mounted.Mounted.{Mounted}
use Rattle.tree_model.specs.Effects.{new_node}
use Rattle.tree_model.specs.Reading.{standard_flags, standard_of}
use Rattle.tree_model.specs.declared.tree.Node.{Node}
use Rattle.tree_model.specs.declared.tree.TheConstants.{SHOWN_FLAGS}
use Rattle.edit_def.specs.Account.{Within, also, nothing}
use Rattle.edit_def.specs.Edited.{Edited, is_room_key}
use Rattle.edit_def.specs.Items.{HasItems, IsCurrent, KeepsItems, stream_sizes}
use Rattle.edit_def.specs.Kept.{either, key_of}
use Rattle.edit_def.specs.Marks.{AreRight, Marks}
use Rattle.edit_def.proofs.EditedLaws.{Edited-then}
use Rattle.edit_def.proofs.IndexLaws.{items-kept, items-of-directory}
use Rattle.record_edits.specs.Between.{IsReady}
use Rattle.root_puts.specs.Marks.{marks_of}
use Rattle.root_puts.specs.Calls.{AddsLink, ChangesIndex, IsNewStandard, MakesNode, link_with}
use Rattle.root_puts.specs.Keys.{is_index_key_of, is_key_of, is_name_key_of, no_key}
use Rattle.root_puts.proofs.CallKeys.{within-nothing}
use Rattle.root_puts.proofs.CallsMade.{Edited-more, add-link, within-same}
use Rattle.made_edits.specs.Between.{HasNewFile, new_parts}
use Rattle.made_edits.specs.Comes.{CanMake, ComesNamed, ComesUnder, IsNewKey}
use Rattle.made_edits.specs.Made.{IsMadeByCalls, is_made_key, new_name}
use Rattle.made_edits.specs.Wants.{made_wants, making_wants, naming_wants}
use Rattle.made_edits.proofs.BetweenMade as between
use Rattle.made_edits.proofs.BodyParts.{bodied_parts, shown-flags, sizes-new, standard-new}
use Rattle.made_edits.proofs.Entered.{Entered}
use Rattle.made_edits.proofs.HeldParts.{parts-held}
use Rattle.made_edits.proofs.IndexPut as put
use Rattle.made_edits.proofs.KeyLaws.{no-name, other-index}
use Rattle.made_edits.proofs.NamedFile as named
use Rattle.made_edits.proofs.NewNode.{node-made}
use Rattle.made_edits.proofs.RootPut.{entered}
use Rattle.made_edits.proofs.ShownDirectory.{directory-index}

module _ (old new : VolumeView) (was now : Mounted) (dir n : ℕ) (node : Node) (units standard key : List ℕ) (moment security : ℕ)
    (directory : Bool) (can : CanMake old dir node units) (right : AreRight old (marks_of was))
    (is_key : IsNewKey old directory dir units moment key)
    (is_standard : IsNewStandard directory moment security standard) (long : length standard ≡ 72)
    (u : ComesUnder directory old new was now n dir standard key) where
  abbrev before : Marks
  before = marks_of was

  abbrev after : Marks
  after = marks_of now

  abbrev counted : VolumeView
  counted = u.counted

  abbrev c : ComesNamed directory old u.counted was now n standard key
  c = u.comes

  abbrev name : FileName
  name = new_name old dir units

  pub ready : IsReady old before
  ready = between.ready old counted was now dir n node units standard key moment directory can right is_key long c

  pub short : length key ≤ 900
  short = between.short old counted was now dir n node units standard key moment directory can right is_key long c

  pub file : HasNewFile directory old counted after n dir standard key
  file = between.has-new-file old counted was now dir n node units standard key moment directory can right is_key long c

  -- THE FILE WITHOUT A NAME
  pub makes : MakesNode (making_wants directory n) old c.bodied before after n directory (new_node directory moment security)
  makes = node-made directory (making_wants directory n) old c.bodied before after n (sequence_at_first (stored_sequence (old.block n)))
      moment security (cluster_bytes old.layout) standard
      (named.ordinary old counted was now n standard key directory c can.told ready long short is_key.whole)
      (named.unused old counted was now n standard key directory c can.told ready long short is_key.whole)
      (named.edited-making old counted was now n standard key directory c can.told ready long short is_key.whole)
      (named.comes-unnamed old counted was now n standard key directory c can.told ready long short is_key.whole)
      (parts-held c.bodied n (bodied_parts directory (cluster_bytes old.layout) n standard)
      (named.holds-bodied old counted was now n standard key directory c can.told ready long short is_key.whole))
      is_standard

  -- THE ENTRY
  index : IsDirectoryIndex old dir
  index = directory-index old dir node can.parent.there can.directory can.parent.sound

  pub absent : (items : List Item) → HasItems counted dir items → IsAbsent (name_order (volume_fold counted)) u.item.key items
  absent items h = subst (λ key. IsAbsent (name_order (volume_fold counted)) key items) (sym u.key_is)
      (subst (IsAbsent (name_order (volume_fold counted)) key)
      (put.one-items counted dir index.items items (file.items dir file.other index.items (items-of-directory old dir index)) h)
      (put.no-equal old dir units key index (ap (λ (f : FileName). f.units) is_key.name) can.absent (volume_fold counted)))

  pub entry : Entered counted new after dir u.item
  entry = entered counted new dir u.item after file.ready u.puts

  pub changes : ChangesIndex nothing counted new after after dir [] (u.item ∷ [])
  changes = entry.changes absent

  pub ready-new : IsReady new after
  ready-new = entry.ready

  pub own-parts-now : parts (records_of new) n ≡ new_parts directory (cluster_bytes old.layout) n standard key
  own-parts-now = entry.others n (λ e. file.other (sym e)) ∙ file.own

  pub link-is : link_of u.item ≡ link_with n (sequence_at_first (stored_sequence (old.block n))) name
  link-is =
      let called : name_in u.item.key ≡ name = ap name_in u.key_is ∙ is_key.name in
      let file_is = u.link in
      λ i. record { file = file_is i; name = called i }

  -- the items of the directory stay until then
  keeps : KeepsItems c.bodied counted dir
  keeps =
      let sets = named.sets-links old counted was now n standard key directory c can.told ready long short is_key.whole in
      let naming = named.edited-naming old counted was now n standard key directory c can.told ready long short is_key.whole in
      let bodied = named.ready-bodied old counted was now n standard key directory c can.told ready long short is_key.whole in
      let both : Edited (is_key_of n) (naming_wants n) c.bodied counted after after =
      Edited-more (either (is_name_key_of n) no_key) (is_key_of n) (naming_wants n) (naming_wants n) c.bodied counted after after
      (λ other e. or_from (is_name_key_of n other) false (no-name n other e) refl) (within-same (naming_wants n))
      (Edited-then (is_name_key_of n) no_key (naming_wants n) nothing (naming_wants n) c.bodied c.named counted after after after
      (within-nothing (naming_wants n)) naming sets.edited) in
      items-kept (either is_room_key (is_key_of n)) c.bodied counted both.kept
      (λ i. 512 * both.volume.cluster_sectors i) bodied.bases bodied.editable.readable file.ready.editable.readable
      (or_from (is_room_key (key_of UPCASE DATA [])) (UPCASE == n) refl (ne_eqb UPCASE n
      (between.no-case old counted was now dir n node units standard key moment directory can right is_key long c)))
      dir (other-index n dir INDEX_ROOT file.other refl) (other-index n dir INDEX_ALLOCATION file.other refl)
      (other-index n dir BITMAP file.other refl)

  -- it tells what the file does
  standard-now : standard_of (parts (records_of new) n) ≡ standard
  standard-now = ap standard_of own-parts-now ∙ standard-new directory (cluster_bytes old.layout) n standard key

  flags-now : bit_and (u32_at u.item.key 0x38) SHOWN_FLAGS ≡ standard_flags standard
  flags-now = ap (λ (k : List ℕ). bit_and (u32_at k 0x38) SHOWN_FLAGS) u.key_is ∙ ap (λ (f : ℕ). bit_and f SHOWN_FLAGS) is_key.flags
      ∙ shown-flags directory moment security ∙ sym is_standard.flags

  pub current : IsCurrent new n u.item.key
  current = record {
    times = ap (λ (k : List ℕ). u64_at k 0x08 ∷ u64_at k 0x10 ∷ u64_at k 0x18 ∷ u64_at k 0x20 ∷ []) u.key_is
        ∙ is_key.times ∙ sym is_standard.times ∙ sym (ap standard_times standard-now);
    flags = flags-now ∙ sym (ap standard_flags standard-now);
    sizes = ap (λ (k : List ℕ). (u64_at k 0x28, u64_at k 0x30)) u.key_is
        ∙ (λ i. (is_key.allocated i, is_key.real i))
        ∙ sizes-new directory (cluster_bytes old.layout) n standard key
        ∙ sym (ap (λ (xs : List Part). stream_sizes (first_part (filter (is_of DATA []) xs))) own-parts-now);
  }

  -- ITS NAME
  pub adds : AddsLink (naming_wants n) c.bodied new after after n name
  adds = add-link (naming_wants n) nothing nothing (naming_wants n) c.bodied c.named counted new after after after after n name
      within-both
      (named.made_numbers old counted was now n standard key directory c can.told ready long short is_key.whole)
      (named.comes-unnamed old counted was now n standard key directory c can.told ready long short is_key.whole).now_at
      (named.adds-name old counted was now n standard key directory c can.told ready long short is_key.whole name is_key.name)
      (named.sets-links old counted was now n standard key directory c can.told ready long short is_key.whole)
      keeps u.item changes link-is current
    where
      within-both : Within (also (also (naming_wants n) nothing) nothing) (naming_wants n)
      within-both = record {
        clusters = omega arith;
        parts = λ f. omega arith;
        units = λ f. omega arith;
        goes = λ f is. is;
        records = omega arith;
      }

  -- BOTH
  pub edited : Edited (is_made_key n dir) (made_wants directory n) old new before after
  edited = Edited-then (is_key_of n) (is_index_key_of dir) (made_wants directory n) nothing (made_wants directory n) old counted new before
      after after
      (within-nothing (made_wants directory n))
      (between.edited old counted was now dir n node units standard key moment directory can right is_key long c) changes.edited

  pub made-calls : IsMadeByCalls directory old new before after n dir units moment security
  made-calls = record { mid = c.bodied; makes = makes; adds = adds; edited = edited }
