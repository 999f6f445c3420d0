-- WHAT THE VOLUME IS AND READS AS where a stream of a file that is shown has other bytes, or went.
use Rattle.std.proofs.Common.{◌≡◌, ◌≢◌, ◌==◌, ◌&&◌, ℕ, Bool, false, List, Option, Some, None, sym, ap, ◌∙◌}
use Rattle.std.specs.List.{Contains}
use Rattle.std.specs.Option.{option_map}
use Rattle.std.specs.Str.{bytes_eq}
use Rattle.std.proofs.lemmas.Bool.{and_left, and_right, eq-eqb, eqb-true, ne_eqb}
use Rattle.list_laws.proofs.SameItemsLaws.{SameItems-passing, SameItems-sym}
use Rattle.ntfs_def.specs.FileName.{FileName}
use Rattle.ntfs_def.specs.declared.kinds.TheConstants.{DATA}
use Rattle.ntfs_def.specs.declared.records.TheConstants.{UPCASE, VOLUME}
use Rattle.volume_def.specs.CaseClause.{volume_fold}
use Rattle.volume_def.specs.FileNames.{names_of}
use Rattle.volume_def.specs.Files.{parts, records_of}
use Rattle.volume_def.specs.Readable.{IsReadableVolume}
use Rattle.volume_def.specs.Sound as clauses
use Rattle.volume_def.specs.View.{VolumeView}
use Rattle.volume_def.proofs.SoundLaws.{readable-sound}
use Rattle.tree_model.specs.Hidden.{is_hidden}
use Rattle.tree_model.specs.Reading.{node_at, streams_of}
use Rattle.tree_model.specs.Streams.{dropped, put_bytes, with_bytes, without_stream}
use Rattle.tree_model.specs.Tree.{sought_stream}
use Rattle.tree_model.specs.declared.tree.Node.{Node}
use Rattle.edit_def.specs.Account.{Wants}
use Rattle.edit_def.specs.Edited.{Edited, is_room_file, is_room_key}
use Rattle.edit_def.specs.Kept.{Key, either, key_of, same_key}
use Rattle.edit_def.specs.Marks.{Marks}
use Rattle.edit_def.specs.Names.{HasRightBases, KeepsNames}
use Rattle.edit_def.proofs.NamesLaws.{bases-of}
use Rattle.stream_overwrites.specs.Below.{LeavesOthers}
use Rattle.stream_overwrites.proofs.Below.{hides-kept, read-sets}
use Rattle.stream_edits.specs.Names.{EditsStream, IsUnseenButStreams}
use Rattle.stream_edits.proofs.EditedReading.{read-gone, read-put}
use Rattle.stream_edits.proofs.EditedStreams.{edited-stream, unseen-but-streams}
use Rattle.stream_edits.proofs.NodeStreams.{node-changed}
use Rattle.in_place_owed.specs.Below.{CanSet}
use Rattle.in_place_owed.proofs.MarksLaws.{right_marks}
use Rattle.stream_overwrites.specs.Overwritten.{FindsPlain}
use Rattle.stream_overwrites.proofs.FoundStream as found
use Rattle.stream_overwrites.proofs.ShownFile.{file, no-room-file, not-case, shown}
use Rattle.value_edits.specs.ValueEdits.{EditsAlone, IsEdited, PutsValue, ShowsNow, node_with}
use Rattle.value_edits.proofs.EditedRecord as value
use Rattle.value_edits.proofs.SoundEdited as edit

module _ (old new : VolumeView) (f : ℕ) (node : Node) (asked name held : List ℕ) (can : CanSet old f node)
    (finds : FindsPlain old f node asked name held) {gains : ℕ → Bool} (e : EditsAlone (key_of f DATA name) gains old new) where
  abbrev key : Key
  key = key_of f DATA name

  abbrev before : Marks
  before = right_marks old

  abbrev after : Marks
  after = right_marks new

  no_case : f ≢ UPCASE
  no_case = not-case old f node can.there

  readable : IsReadableVolume old
  readable = readable-sound old can.sound

  bases : HasRightBases (records_of old)
  bases = bases-of (records_of old) (can.sound clauses.References)

  abbrev wants : Wants
  wants = value.wants key old new can.sound can.apart e

  edited : Edited (same_key key) wants old new before after
  edited = value.edited key old new can.sound can.apart e

  names : (g : ℕ) → KeepsNames (records_of old) (records_of new) g
  names = edit.names key old new can.sound can.apart e

  hides : (g : ℕ) → is_hidden (records_of new) g ≡ is_hidden (records_of old) g
  hides = hides-kept old new bases edited.volume.count (λ g. (names g).names)

  -- ONE STREAM was edited, and nothing else that the tree shows.
  no_room : is_room_file f ≡ false
  no_room = no-room-file (records_of old) f (shown old f node can.there)

  abbrev whole : Key → Bool
  whole = either is_room_key (same_key key)

  stream : EditsStream whole old new f name
  stream = edited-stream f name no_room (same_key key) (λ other free. free) wants old new before after edited readable bases
      finds.tellable no_case

  unseen : IsUnseenButStreams whole f
  unseen = unseen-but-streams f name no_room

  others : LeavesOthers (same_key key) old f
  others g ne seen kind n s = and_right (DATA == kind) ((f == g) && bytes_eq name n)
      (and_left (f == g) (bytes_eq name n) (ne_eqb f g (λ same. ne (sym same))))

  sought : sought_stream (volume_fold old) (streams_of old (parts (records_of old) f)) asked ≡ Some finds.stream
  sought = found.sought old f node asked name held readable (file old f node can.there) can.there finds

  -- THE FILE is the node with these bytes, or without the stream.
  node-now : (bytes : Option (List ℕ)) → ShowsNow new key bytes → node_at new f ≡ Some (node_with old asked bytes node)
  node-now None missing =
      node-changed whole old new f name stream unseen (names f).numbers (hides f)
      (λ streams. dropped streams (sought_stream (volume_fold old) streams asked))
      (read-gone whole old new f name stream finds.stream finds.spelt finds.there missing
      ∙ ap (dropped (streams_of old (parts (records_of old) f))) (sym sought))
      ∙ ap (option_map (λ (n : Node). without_stream (volume_fold old) asked n)) can.there
  node-now (Some bytes) shows =
      node-changed whole old new f name stream unseen (names f).numbers (hides f)
      (λ streams. put_bytes (volume_fold old) asked bytes streams (sought_stream (volume_fold old) streams asked))
      (read-put whole old new f name stream finds.stream asked bytes finds.spelt finds.there shows
      ∙ ap (put_bytes (volume_fold old) asked bytes (streams_of old (parts (records_of old) f))) (sym sought))
      ∙ ap (option_map (λ (n : Node). with_bytes (volume_fold old) asked bytes n)) can.there

  -- no name of it stands where it did not
  elsewhere : (n : FileName) → Contains (names_of (records_of new) f) n → n.parent.number ≢ VOLUME
  elsewhere n c in_volume =
      let was = SameItems-passing (λ (n : FileName). n.parent.number == VOLUME) (names_of (records_of new) f) (names_of (records_of old) f)
      n (SameItems-sym (names_of (records_of old) f) (names_of (records_of new) f) (names f).names) c
      (eq-eqb n.parent.number VOLUME in_volume) in
      can.elsewhere was.0 was.1 (eqb-true was.0.parent.number VOLUME was.2)

  -- THE WHOLE
  is-edited : (bytes : Option (List ℕ)) → ShowsNow new key bytes → IsEdited key gains old new (node_with old asked bytes node)
  is-edited bytes shows = record {
    edits = e;
    can = record {
      sound = edit.sound-now key old new can.sound can.apart e no_case;
      apart = value.apart-now key old new can.sound can.apart e;
      there = node-now bytes shows;
      other = can.other;
      elsewhere = elsewhere;
    };
    reads = read-sets (same_key key) wants old new before after edited readable bases
        (edit.case-unnamed key old new can.sound can.apart e no_case)
        f (node_with old asked bytes node) others names (node-now bytes shows);
  }

pub stream-put : (old new : VolumeView) (f : ℕ) (node : Node) (asked name held : List ℕ) (bytes : Option (List ℕ)) (gains : ℕ → Bool)
    → CanSet old f node → FindsPlain old f node asked name held → PutsValue old new f name bytes gains
    → IsEdited (key_of f DATA name) gains old new (node_with old asked bytes node)
stream-put old new f node asked name held bytes gains can finds puts =
    is-edited old new f node asked name held can finds puts.edits bytes puts.shows
