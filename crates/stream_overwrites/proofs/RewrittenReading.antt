-- WHAT THE VOLUME READS AS where bytes went over bytes of a stream of a file that is shown: one attribute was rewritten, the volume is
-- sound, and the stream shows these bytes.
use Rattle.std.proofs.Common.{◌≡◌, ◌≢◌, ◌==◌, ◌&&◌, ℕ, Bool, false, List, [], Some, refl, sym, ap, subst, inl, inr, ◌∙◌, arith}
use Rattle.std.specs.List.{Contains}
use Rattle.std.specs.Prelude.{option_map}
use Rattle.std.specs.Str.{bytes_eq}
use Rattle.std.proofs.lemmas.Bool.{and_left, and_right, cases_Bool, ne_eqb, or_from}
use Rattle.ntfs_def.specs.FileName.{FileName}
use Rattle.ntfs_def.specs.declared.kinds.TheConstants.{DATA}
use Rattle.ntfs_def.specs.declared.records.TheConstants.{UPCASE, VOLUME}
use Rattle.volume_def.specs.CaseClause.{volume_fold}
use Rattle.volume_def.specs.Files.{parts, records_of}
use Rattle.volume_def.specs.Readable.{IsReadableVolume}
use Rattle.volume_def.specs.Sound.{IsSound}
use Rattle.volume_def.specs.Sound.{References}
use Rattle.volume_def.specs.Table.{TableLayout, cluster_bytes}
use Rattle.volume_def.specs.View.{VolumeView}
use Rattle.volume_def.proofs.SoundLaws.{readable-sound}
use Rattle.tree_model.specs.Hidden.{is_hidden}
use Rattle.tree_model.specs.Reading.{node_at, read, streams_of}
use Rattle.tree_model.specs.Streams.{put_bytes, with_bytes, written}
use Rattle.tree_model.specs.Tree.{sought_stream}
use Rattle.tree_model.specs.declared.tree.Node.{Node}
use Rattle.tree_model.proofs.ReadingLaws.{nodes-insert}
use Rattle.edit_def.specs.Edited.{is_room_key}
use Rattle.edit_def.specs.Kept.{IsUnseen, KeepsBut, Key, either, key_of, same_key}
use Rattle.edit_def.specs.Names.{HasRightBases, KeepsNames, Numbers}
use Rattle.edit_def.proofs.IndexLaws.{fold-kept, items-kept}
use Rattle.edit_def.proofs.LinkLaws.{all-kept}
use Rattle.edit_def.proofs.NamesLaws.{bases-of}
use Rattle.edit_def.proofs.NodeLaws.{hidden-none, node-kept}
use Rattle.command_edits.proofs.HiddenFiles.{hides-kept}
use Rattle.in_place.specs.InPlace.{Rewrites}
use Rattle.in_place.proofs.IndexesOwed.{depth-same}
use Rattle.in_place.proofs.KeptInPlace as keeps
use Rattle.in_place.proofs.PlacesSame.{names-kept, names-same}
use Rattle.in_place.proofs.StillApart as still
use Rattle.command_edits.specs.Steps.{with_node}
use Rattle.command_edits.proofs.LinksRead.{read-links}
use Rattle.stream_edits.specs.Names.{EditsStream}
use Rattle.stream_edits.specs.Streams.{ShowsBytes}
use Rattle.stream_edits.proofs.EditedReading.{read-put}
use Rattle.stream_edits.proofs.EditedStreams.{names-stream, unseen-but-streams}
use Rattle.stream_edits.proofs.NodeStreams.{node-changed}
use Rattle.in_place.specs.Unnamed.{CanSet}
use Rattle.stream_overwrites.specs.Overwritten.{FindsPlain, IsOverwritten, node_over}
use Rattle.stream_overwrites.proofs.FoundStream as found
use Rattle.stream_overwrites.proofs.ShownFile.{file, no-room-file, not-case, room-unseen, shown}

module _ (old new : VolumeView) (f : ℕ) (node : Node) (asked name : List ℕ) (at : ℕ) (bytes held : List ℕ) (can : CanSet old f node)
    (finds : FindsPlain old f node asked name held) (w : Rewrites (same_key (key_of f DATA name)) old new) (sound-now : IsSound new)
    (shows : ShowsBytes new (key_of f DATA name) (written at bytes held)) where
  readable : IsReadableVolume old
  readable = readable-sound old can.sound

  readable-now : IsReadableVolume new
  readable-now = readable-sound new sound-now

  bases : HasRightBases (records_of old)
  bases = bases-of (records_of old) (can.sound References)

  size : cluster_bytes new.layout ≡ cluster_bytes old.layout
  size = ap (λ (l : TableLayout). cluster_bytes l) w.layout

  -- WHAT IS NAMED: the stream, and all room.
  abbrev own : Key → Bool
  own = same_key (key_of f DATA name)

  abbrev whole : Key → Bool
  whole = either is_room_key own

  kept : KeepsBut whole old new
  kept = keeps.kept-room own old new w can.apart.owners can.apart.some can.apart.unnamed

  other-file : (g kind : ℕ) (n : List ℕ) → f ≢ g → own (key_of g kind n) ≡ false
  other-file g kind n ne =
      and_right (DATA == kind) ((f == g) && bytes_eq name n) (and_left (f == g) (bytes_eq name n) (ne_eqb f g ne))

  no-case : whole (key_of UPCASE DATA []) ≡ false
  no-case = other-file UPCASE DATA [] (not-case old f node can.there)

  fold-same : volume_fold new ≡ volume_fold old
  fold-same = fold-kept whole old new kept size bases readable no-case

  -- names stay
  names : (g : ℕ) → KeepsNames (records_of old) (records_of new) g
  names g = names-kept own old new w g (λ n. refl)

  hides : (g : ℕ) → is_hidden (records_of new) g ≡ is_hidden (records_of old) g
  hides =
      let count = ap (λ (l : TableLayout). l.count) w.layout in
      hides-kept old new bases (omega (arith, count)) (λ g. (names g).names)

  edits : EditsStream whole old new f name
  edits = record {
    names = names-stream f name (no-room-file (records_of old) f (shown old f node can.there));
    kept = kept f;
    tellable = finds.tellable;
    readable = readable;
    readable_now = readable-now;
    bases = bases;
    bases_now = bases-of (records_of new) (sound-now References);
    size = size;
    fold = fold-same;
  }

  abbrev next : Node
  next = node_over old asked at bytes held node

  -- THE FILE is the node with these bytes over those.
  node-now : node_at new f ≡ Some next
  node-now =
      let sought = found.sought old f node asked name held readable (file old f node can.there) can.there finds in
      node-changed whole old new f name edits (unseen-but-streams f name (no-room-file (records_of old) f (shown old f node can.there)))
      (names f).numbers (hides f)
      (λ streams. put_bytes (volume_fold old) asked (written at bytes held) streams (sought_stream (volume_fold old) streams asked))
      (read-put whole old new f name edits finds.stream asked (written at bytes held) finds.spelt finds.there shows
      ∙ ap (put_bytes (volume_fold old) asked (written at bytes held) (streams_of old (parts (records_of old) f))) (sym sought))
      ∙ ap (option_map (λ (n : Node). with_bytes (volume_fold old) asked (written at bytes held) n)) can.there

  -- every other file is as it was
  other-unseen : (g : ℕ) → f ≢ g → is_hidden (records_of old) g ≡ false → IsUnseen whole g
  other-unseen g ne seen kind n s =
      or_from (is_room_key (key_of g kind n)) (own (key_of g kind n)) (room-unseen (records_of old) g seen kind n s)
      (other-file g kind n ne)

  node-other : (g : ℕ) → g ≢ f → node_at new g ≡ node_at old g
  node-other g ne = elim (cases_Bool (is_hidden (records_of old) g)) [
    | inl hidden ↦ hidden-none new g (hides g ∙ hidden) ∙ sym (hidden-none old g hidden)
    | inr seen ↦
        node-kept whole old new g (kept g) size readable readable-now bases fold-same
        (other-unseen g (λ e. ne (sym e)) seen) (ap (option_map (λ (n : Numbers). n.directory)) (names g).numbers) (hides g)
  ]

  reads : read new ≡ with_node f next (read old)
  unfolding read
  reads =
      read-links old new fold-same hides (all-kept old new names)
      ∙ ap (λ nodes. record (read old) { nodes = nodes }) (nodes-insert old new f next node-now node-other)

  can-now : CanSet new f next
  can-now = record {
    sound = sound-now;
    apart = still.apart-still own old new w can.apart;
    there = node-now;
    other = can.other;
    elsewhere = subst (λ all. (n : FileName) → Contains all n → n.parent.number ≢ VOLUME)
        (sym (names-same own old new w f (λ n. refl))) can.elsewhere;
  }

  -- THE WHOLE
  pub rewritten : IsOverwritten old new f node asked name at bytes held
  rewritten = record {
    sound = sound-now;
    can = can-now;
    rewrites = w;
    reads = reads;
    items = λ dir. items-kept whole old new kept size bases readable readable-now no-case dir refl refl refl;
    depths = λ index. depth-same own old new w can.apart index refl refl;
  }
