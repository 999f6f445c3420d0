-- WHAT ELSE STAYS, all of it.
use Rattle.std.proofs.Common.{◌≡◌, ◌≢◌, ℕ, Bool, List, [], ◌∷◌, codes, length, refl, sym, ap, subst, ◌∙◌}
use Rattle.std.proofs.Common.{if◌then◌else◌}
use Rattle.std.specs.Prelude.{Contains, IsSomeAnd}
use Rattle.list_laws.specs.Replaces.{Replaces}
use Rattle.ntfs_def.specs.FileName.{FileName}
use Rattle.ntfs_def.specs.Record.{Header}
use Rattle.ntfs_def.specs.declared.records.TheConstants.{EXTEND}
use Rattle.volume_def.specs.FileNames.{names_of}
use Rattle.volume_def.specs.Files.{parts, records_of}
use Rattle.volume_def.specs.Freed.{sequence_at_first, stored_sequence}
use Rattle.volume_def.specs.Table.{cluster_bytes}
use Rattle.volume_def.specs.View.{VolumeView}
use Rattle.mft_table.specs.declared.mounted.Mounted.{Mounted}
use Rattle.tree_model.specs.declared.tree.Link.{Link}
use Rattle.tree_model.specs.declared.tree.Node.{Node}
use Rattle.tree_model.proofs.NamesLaws.{is_shown}
use Rattle.edit_def.specs.Edited.{Edited}
use Rattle.edit_def.specs.Kept.{Told, told_names}
use Rattle.edit_def.specs.Marks.{AreRight}
use Rattle.record_edits.specs.Between.{IsReady}
use Rattle.in_place.specs.Kept.{KeepsNamesBut}
use Rattle.root_puts.specs.Marks.{marks_of}
use Rattle.root_puts.specs.Calls.{IsNewStandard, link_with}
use Rattle.root_puts.proofs.StageLaws.{not-extend}
use Rattle.made_edits.specs.Beside.{HasNewItem, KeepsRest}
use Rattle.made_edits.specs.Between.{new_parts}
use Rattle.made_edits.specs.Comes.{CanMake, ComesUnder, IsNewKey}
use Rattle.made_edits.specs.Left.{LeavesRest}
use Rattle.made_edits.specs.Made.{is_made_key, new_name}
use Rattle.made_edits.specs.Wants.{made_wants}
use Rattle.made_edits.proofs.AloneLaws.{names-of-parts}
use Rattle.made_edits.proofs.BodyParts.{named-new}
use Rattle.made_edits.proofs.BesideMade as beside
use Rattle.made_edits.proofs.IndexPut.{one-items}
use Rattle.made_edits.proofs.LeftMade as left
use Rattle.made_edits.proofs.MadeCalls as calls
use Rattle.made_edits.proofs.ReadyLaws.{parts-unused}
use Rattle.made_edits.proofs.StoredAfter as after_all

module _ (old new : VolumeView) (was now : Mounted) (dir n : ℕ) (node : Node) (units standard key : List ℕ) (moment security : ℕ)
    (directory : Bool) (can : CanMake old dir node units) (right : AreRight old (marks_of was))
    (is_key : IsNewKey old directory dir units moment key)
    (is_standard : IsNewStandard directory moment security standard) (long : length standard ≡ 72)
    (u : ComesUnder directory old new was now n dir standard key) where
  rest : LeavesRest old new n dir
  rest = left.leaves-rest old new was now dir n node units standard key moment security directory can right is_key is_standard long u

  ready : IsReady old (marks_of was)
  ready = calls.ready old new was now dir n node units standard key moment security directory can right is_key is_standard long u

  edit : Edited (is_made_key n dir) (made_wants directory n) old new (marks_of was) (marks_of now)
  edit = calls.edited old new was now dir n node units standard key moment security directory can right is_key is_standard long u

  -- the bytes of a cluster
  abbrev size : ℕ
  size = cluster_bytes old.layout

  own : parts (records_of new) n ≡ new_parts directory size n standard key
  own = calls.own-parts-now old new was now dir n node units standard key moment security directory can right is_key is_standard long u

  none : parts (records_of old) n ≡ []
  none = parts-unused old n ready.bases rest.free

  named : names_of (records_of new) n ≡ new_name old dir units ∷ []
  named =
      names-of-parts new n (new_parts directory size n standard key) own ∙ named-new directory size n standard key
      ∙ ap (λ (name : FileName). name ∷ []) is_key.name

  away : dir ≢ EXTEND
  away = not-extend old dir (is_shown old dir node can.parent.there).shown

  -- NAMES of other files
  told : (f : ℕ) → f ≢ n → told_names new f ≡ told_names old f
  told = after_all.told-left old new was now dir n node units standard key moment security directory can right is_key is_standard long u

  names : (gone : List Link) (f : ℕ) → f ≢ n → KeepsNamesBut gone old new f
  names gone f ne name among stays = subst (λ (xs : List Told). Contains xs name) (sym (told f ne)) among

  -- THE ENTRY
  entry : HasNewItem old new n dir key
  entry =
      let changes = calls.changes old new was now dir n node units standard key moment security directory can right is_key is_standard long
      u in
      let file = calls.file old new was now dir n node units standard key moment security directory can right is_key is_standard long u in
      let link = calls.link-is old new was now dir n node units standard key moment security directory can right is_key is_standard long u
      in
      record {
        item = u.item;
        key_is = u.key_is;
        link = link ∙ ap (link_with n (sequence_at_first (stored_sequence (old.block n)))) (sym is_key.name);
        current = calls.current old new was now dir n node units standard key moment security directory can right is_key is_standard long u;
        items = λ items next h k.
            let came = changes.entry items (file.items dir file.other items h) in
            subst (λ xs. Replaces items xs [] (u.item ∷ [])) (one-items new dir came.0 next came.1 k) came.2;
      }

  pub keeps-rest : KeepsRest directory old new n dir standard key
  keeps-rest =
      let header = left.header-is old new was now dir n node units standard key moment security directory can right is_key is_standard long
      u in
      record {
        layout = rest.leaves.layout;
        base = subst (λ o. IsSomeAnd o (λ r. (r.header.flags ≡ (if directory then 3 else 1)) × (r.header.links ≡ 1)))
            (sym (left.there old new was now dir n node units standard key moment security directory can right is_key is_standard long u))
            (ap (λ (h : Header). h.flags) header, ap (λ (h : Header). h.links) header);
        own = own;
        none = none;
        spots = beside.spots old new n dir size standard key directory rest own none;
        names = names;
        directories = beside.directories old new n dir size standard key directory rest own none;
        indexes = beside.indexes old new n dir size standard key directory rest own none;
        entry = entry;
        points = beside.keys old new n dir size standard key directory rest own none (new_name old dir units) named away (codes "$Reparse")
            (codes "$R") refl edit.kept ready.bases ready.editable.readable edit.editable.readable refl;
        object_ids = beside.keys old new n dir size standard key directory rest own none (new_name old dir units) named away (codes
            "$ObjId")
            (codes "$O") refl edit.kept ready.bases ready.editable.readable edit.editable.readable refl;
      }
