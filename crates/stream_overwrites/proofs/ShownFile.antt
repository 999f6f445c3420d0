-- WHAT IS KNOWN OF A FILE THAT IS SHOWN: which it is not, that it is there, and its streams.
use Rattle.std.proofs.Common.{◌≡◌, ◌≢◌, ◌<◌, ◌==◌, ◌&&◌, ◌||◌, ℕ, Bool, true, false, List, [], length, Option, Some, None, sym, ap, subst}
use Rattle.std.proofs.Common.{refl, inl, inr, ◌∙◌, arith, if◌then◌else◌, true≢false}
use Rattle.std.specs.Prelude.{IsSomeAnd, IsTrue, option_map}
use Rattle.std.proofs.lemmas.Bool.{and_right, cases_eq, cases_lt, ne_eqb, not-true, or_from}
use Rattle.list_laws.proofs.BoolLaws.{not-either}
use Rattle.ntfs_def.specs.declared.kinds.TheConstants.{ATTRIBUTE_LIST, BITMAP, DATA, FILE_NAME}
use Rattle.ntfs_def.specs.declared.records.TheConstants.{BAD_CLUSTERS, CLUSTER_BITMAP, FIRST_ORDINARY, MFT, MFT_MIRROR, ROOT, SECURE}
use Rattle.ntfs_def.specs.declared.records.TheConstants.{UPCASE}
use Rattle.volume_def.specs.Files.{Record, Records, is_base, parts, records_of}
use Rattle.volume_def.specs.Readable.{IsFile}
use Rattle.volume_def.specs.View.{VolumeView}
use Rattle.tree_model.specs.Hidden.{is_hidden}
use Rattle.tree_model.specs.Reading.{node_at, streams_of}
use Rattle.tree_model.specs.declared.tree.Node.{Node}
use Rattle.tree_model.specs.declared.tree.Stream.{Stream}
use Rattle.tree_model.proofs.HiddenLaws.{hidden-system}
use Rattle.tree_model.proofs.NamesLaws.{is_shown}
use Rattle.edit_def.specs.Edited.{is_room_file, is_room_key}
use Rattle.edit_def.specs.Kept.{is_seen, key_of}
use Rattle.edit_def.specs.Names.{Numbers, numbers_at}
use Rattle.edit_def.proofs.NodeLaws.{node-numbers, node_with}
use Rattle.record_calls.specs.Between.{MayBeEdited}

-- No file of the system is shown but the root.
pub not-system : (records : Records) (f n : ℕ) → is_hidden records f ≡ false → n < FIRST_ORDINARY → n ≢ ROOT → f ≢ n
not-system records f n shown low other same =
    true≢false (sym (hidden-system records n low other) ∙ ap (is_hidden records) (sym same) ∙ shown)

module _ (view : VolumeView) (f : ℕ) (node : Node) (there : node_at view f ≡ Some node) where
  pub shown : is_hidden (records_of view) f ≡ false
  shown = (is_shown view f node there).shown

  pub file : IsFile view f
  file =
      let s = is_shown view f node there in
      subst (λ (o : Option Record). IsSomeAnd o (λ r. IsTrue (is_base r))) (sym s.at) s.is

  pub not-table : f ≢ MFT
  not-table = not-system (records_of view) f MFT shown (omega arith) (λ e. absurd (omega (arith, e)))

  pub not-mirror : f ≢ MFT_MIRROR
  not-mirror = not-system (records_of view) f MFT_MIRROR shown (omega arith) (λ e. absurd (omega (arith, e)))

  pub not-bitmap : f ≢ CLUSTER_BITMAP
  not-bitmap = not-system (records_of view) f CLUSTER_BITMAP shown (omega arith) (λ e. absurd (omega (arith, e)))

  pub not-case : f ≢ UPCASE
  not-case = not-system (records_of view) f UPCASE shown (omega arith) (λ e. absurd (omega (arith, e)))

  pub not-bad : f ≢ BAD_CLUSTERS
  not-bad = not-system (records_of view) f BAD_CLUSTERS shown (omega arith) (λ e. absurd (omega (arith, e)))

  -- so its attributes may be edited
  pub may-edit : MayBeEdited f
  may-edit = elim (cases_eq f ROOT) [
    | inl root ↦ inl root
    | inr other ↦ elim (cases_lt f SECURE) [
      | inl low ↦ absurd (not-system (records_of view) f f shown (omega (arith, low)) other refl)
      | inr le ↦ inr le
    ]
  ]

  -- THE STREAMS of its node are those that are read of its parts.
  pub node-streams : node.streams ≡ streams_of view (parts (records_of view) f)
  node-streams = by (is_hidden (records_of view) f) (numbers_at (records_of view) f) (sym (node-numbers view f) ∙ there)
    where
      by : (b : Bool) (o : Option Numbers)
          → (if b then None else option_map (λ (n : Numbers). node_with view n.directory (parts (records_of view) f)) o) ≡ Some node
          → node.streams ≡ streams_of view (parts (records_of view) f)
      by true o e = cc
      by false None e = cc
      by false (Some n) e = sym (ap streams_in e)
        where
          streams_in : Option Node → List Stream
          streams_in None = []
          streams_in (Some n) = n.streams

-- NO ROOM is kept in a file that is shown, but in lists.
pub no-room-file : (records : Records) (g : ℕ) → is_hidden records g ≡ false → is_room_file g ≡ false
no-room-file records g shown =
    or_from ((g == MFT) || (g == MFT_MIRROR)) (g == CLUSTER_BITMAP)
    (or_from (g == MFT) (g == MFT_MIRROR)
    (ne_eqb g MFT (not-system records g MFT shown (omega arith) (λ e. absurd (omega (arith, e)))))
    (ne_eqb g MFT_MIRROR (not-system records g MFT_MIRROR shown (omega arith) (λ e. absurd (omega (arith, e))))))
    (ne_eqb g CLUSTER_BITMAP (not-system records g CLUSTER_BITMAP shown (omega arith) (λ e. absurd (omega (arith, e)))))

pub room-unseen : (records : Records) (g : ℕ) → is_hidden records g ≡ false → (kind : ℕ) (name : List ℕ) → is_seen kind name ≡ true
    → is_room_key (key_of g kind name) ≡ false
room-unseen records g shown kind name seen =
    let list = (not-either (kind == ATTRIBUTE_LIST) (kind == FILE_NAME) _ (not-true _ seen)).0 in
    let none = no-room-file records g shown in
    let table = (not-either (g == MFT) (g == MFT_MIRROR) (g == CLUSTER_BITMAP) none).0 in
    or_from ((kind == ATTRIBUTE_LIST) || ((kind == BITMAP) && ((length name == 0) && (g == MFT))))
    ((kind == DATA) && ((length name == 0) && is_room_file g))
    (or_from (kind == ATTRIBUTE_LIST) ((kind == BITMAP) && ((length name == 0) && (g == MFT))) list
    (and_right (kind == BITMAP) ((length name == 0) && (g == MFT)) (and_right (length name == 0) (g == MFT) table)))
    (and_right (kind == DATA) ((length name == 0) && is_room_file g) (and_right (length name == 0) (is_room_file g) none))
