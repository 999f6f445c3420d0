-- Files that are shown keep their nodes where a call names nothing of them that the tree shows.
use Rattle.std.proofs.Common.{Bool, List, Option, [], ap, arith, false, inl, inr, length, sym, true, ℕ, ◌&&◌, ◌==◌, ◌||◌, ◌∙◌, ◌≡◌}
use Rattle.std.specs.Prelude.{option_map}
use Rattle.std.proofs.lemmas.Bool.{and_right, cases_Bool, cases_eq, cases_lt, ne_eqb, not-true, or_from}
use Rattle.list_laws.proofs.BoolLaws.{not-either}
use Rattle.ntfs_def.specs.declared.kinds.TheConstants.{ATTRIBUTE_LIST, BITMAP, DATA, FILE_NAME}
use Rattle.ntfs_def.specs.declared.records.TheConstants.{CLUSTER_BITMAP, FIRST_ORDINARY, MFT, MFT_MIRROR, ROOT, UPCASE}
use Rattle.volume_def.specs.CaseClause.{volume_fold}
use Rattle.volume_def.specs.Files.{Records, parts, records_of}
use Rattle.volume_def.specs.Readable.{IsReadableVolume}
use Rattle.volume_def.specs.Table.{cluster_bytes}
use Rattle.volume_def.specs.View.{VolumeView}
use Rattle.tree_model.specs.Hidden.{is_hidden}
use Rattle.tree_model.specs.Reading.{node_at, standard_of}
use Rattle.tree_model.proofs.HiddenLaws.{hidden-system}
use Rattle.edit_def.specs.Account.{Wants}
use Rattle.edit_def.specs.Edited.{Edited, is_room_file, is_room_key}
use Rattle.edit_def.specs.Kept.{IsUnseen, IsUnseenButTimes, Key, either, is_seen, key_of}
use Rattle.edit_def.specs.Marks.{Marks}
use Rattle.edit_def.specs.Names.{HasRightBases, Numbers, numbers_at}
use Rattle.edit_def.proofs.IndexLaws.{cluster-size, fold-kept}
use Rattle.edit_def.proofs.NodeLaws.{hidden-none, node-kept, node-set}
use Rattle.reading_edits.specs.Steps.{with_standard}

-- no attribute of a file that is shown keeps room, but for lists
room-file-none : (records : Records) (g : ℕ) → is_hidden records g ≡ false → is_room_file g ≡ false
room-file-none records g shown = elim (cases_eq g ROOT) [
  | inl e ↦ ap is_room_file e
  | inr ne ↦ elim (cases_lt g FIRST_ORDINARY) [
    | inl low ↦ let never : true ≡ false = sym (hidden-system records g low ne) ∙ shown in cc
    | inr high ↦
        or_from ((g == MFT) || (g == MFT_MIRROR)) (g == CLUSTER_BITMAP)
        (or_from (g == MFT) (g == MFT_MIRROR) (ne_eqb g MFT (λ e. absurd (omega arith))) (ne_eqb g MFT_MIRROR (λ e. absurd (omega arith))))
        (ne_eqb g CLUSTER_BITMAP (λ e. absurd (omega arith)))
  ]
]

room-unseen : (records : Records) (g : ℕ) → is_hidden records g ≡ false → (kind : ℕ) (name : List ℕ) → is_seen kind name ≡ true
    → is_room_key (key_of g kind name) ≡ false
room-unseen records g shown kind name seen =
    let list = (not-either (kind == ATTRIBUTE_LIST) (kind == FILE_NAME) _ (not-true _ seen)).0 in
    let none = room-file-none records g shown in
    let table = (not-either (g == MFT) (g == MFT_MIRROR) (g == CLUSTER_BITMAP) none).0 in
    or_from ((kind == ATTRIBUTE_LIST) || ((kind == BITMAP) && ((length name == 0) && (g == MFT))))
    ((kind == DATA) && ((length name == 0) && is_room_file g))
    (or_from (kind == ATTRIBUTE_LIST) ((kind == BITMAP) && ((length name == 0) && (g == MFT))) list
    (and_right (kind == BITMAP) ((length name == 0) && (g == MFT)) (and_right (length name == 0) (g == MFT) table)))
    (and_right (kind == DATA) ((length name == 0) && is_room_file g) (and_right (length name == 0) (is_room_file g) none))

-- whether a file is a directory, if it is there
abbrev pub directory_at : VolumeView → ℕ → Option Bool
directory_at v f = option_map (λ (n : Numbers). n.directory) (numbers_at (records_of v) f)

-- A CALL on a volume whose files can be read, that does not name the table of case.
module _ (changed : Key → Bool) (wants : Wants) (old new : VolumeView) (was now : Marks) (edited : Edited changed wants old new was now)
    (readable : IsReadableVolume old) (bases : HasRightBases (records_of old)) (free : changed (key_of UPCASE DATA []) ≡ false) where
  abbrev whole : Key → Bool
  whole = either is_room_key changed

  size : cluster_bytes new.layout ≡ cluster_bytes old.layout
  size = cluster-size old new edited.volume

  pub fold-read : volume_fold new ≡ volume_fold old
  fold-read = fold-kept whole old new edited.kept size bases readable free

  -- of what it names of a file that is shown the tree shows nothing
  unseen-whole : (g : ℕ) → is_hidden (records_of old) g ≡ false → IsUnseen changed g → IsUnseen whole g
  unseen-whole g shown unseen kind name seen =
      or_from (is_room_key (key_of g kind name)) (changed (key_of g kind name)) (room-unseen (records_of old) g shown kind name seen)
      (unseen kind name seen)

  pub node-read : (g : ℕ) → is_hidden (records_of new) g ≡ is_hidden (records_of old) g
      → (is_hidden (records_of old) g ≡ false → IsUnseen changed g) → directory_at new g ≡ directory_at old g
      → node_at new g ≡ node_at old g
  node-read g hides unseen same = elim (cases_Bool (is_hidden (records_of old) g)) [
    | inl hidden ↦ hidden-none new g (hides ∙ hidden) ∙ sym (hidden-none old g hidden)
    | inr shown ↦
        node-kept whole old new g (edited.kept g) size readable edited.editable.readable bases fold-read
        (unseen-whole g shown (unseen shown)) same hides
  ]

  -- and but for times, flags and id nothing
  pub node-stamped : (g : ℕ) → is_hidden (records_of new) g ≡ is_hidden (records_of old) g → is_hidden (records_of old) g ≡ false
      → IsUnseenButTimes changed g → numbers_at (records_of new) g ≡ numbers_at (records_of old) g
      → node_at new g ≡ option_map (with_standard (standard_of (parts (records_of new) g))) (node_at old g)
  node-stamped g hides shown unseen same =
      node-set whole old new g (edited.kept g) size readable edited.editable.readable bases fold-read
      (λ kind name seen other. or_from (is_room_key (key_of g kind name)) (changed (key_of g kind name))
      (room-unseen (records_of old) g shown kind name seen) (unseen kind name seen other)) same hides
