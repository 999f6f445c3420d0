-- WHAT THE CALLS LEAVE of a stream that left its record, by what it had: the bytes that were written, or its length.
use Rattle.std.proofs.Common.{◌≡◌, ◌+◌, ◌*◌, ◌/◌, ◌<◌, ◌≤◌, ℕ, List, [], ◌∷◌, Option, Some, length}
use Rattle.std.proofs.Common.{sym, ap, subst, inl, inr, ◌∙◌, arith}
use Rattle.std.specs.Prelude.{IsSomeAnd, slice_get, sum_by}
use Rattle.std.proofs.lemmas.Bool.{cases_lt}
use Rattle.vol_disk.specs.declared.Disk.{Ghosts}
use Rattle.ntfs_def.specs.declared.kinds.TheConstants.{DATA}
use Rattle.ntfs_def.specs.declared.run_text.Run.{Run}
use Rattle.volume_def.specs.FileNames.{names_of}
use Rattle.volume_def.specs.Files.{Part, content_value, parts, parts_at, records_of}
use Rattle.volume_def.specs.Table.{cluster_bytes}
use Rattle.volume_def.specs.View.{VolumeView}
use Rattle.mft_table.specs.declared.mft.Mft.{Mft}
use Rattle.file_record.specs.Held.{parts_held}
use Rattle.file_record.specs.Written.{PartHeld}
use Rattle.file_record.specs.declared.parts.FileParts.{FileParts}
use Rattle.edit_def.specs.Purses.{run_size}
use Rattle.sparse_io.specs.declared.find.FoundStream.{FoundStream}
use Rattle.tree_model.specs.StreamRoom.{new_clusters}
use Rattle.tree_model.specs.Streams.{written}
use Rattle.tree_edit.proofs.StagedLaws.{few-more}
use Rattle.value_edits.specs.ValueEdits.{PutsBytes, ResizesStream, count_by_length, gained_by_write}
use Rattle.value_edits.proofs.WrittenBytes.{written-long}
use Rattle.moved_streams.specs.MovedStreams.{MovesStream}
use Rattle.moved_streams.proofs.MovedCalls.{lengthened-few, lengthened-moved, written-few, written-moved}
use Rattle.stream_changes.specs.Staged.{IsOfGiving, StagesGiving}
use Rattle.stream_changes.proofs.Changed.{put-of}
use Rattle.stream_changes.proofs.ReachLaws.{few-clusters}
use Rattle.stream_changes.specs.Moving.{CanLeave, CanLengthen, CanMove, LeavesRecord}
use Rattle.stream_changes.proofs.LeftRecord.{positive, some-clusters}

-- THE VALUE THAT IS HELD is the one that the file shows.
pub held-value : (v : VolumeView) (found : FoundStream) (f size : ℕ) (can : CanLeave v found f size)
    (held : FileParts) (o : Option (List ℕ))
    → parts_held held ≡ parts (records_of v) f → PartHeld held found.part (λ part. content_value part.content ≡ o)
    → o ≡ Some can.named.held
held-value v found f size can held o are tells =
    let its : content_value can.part.content ≡ o =
    subst (λ (p : Option Part). IsSomeAnd p (λ part. content_value part.content ≡ o))
    (ap (λ (ps : List Part). slice_get ps found.part) are ∙ can.at) tells in
    sym its ∙ ap content_value can.is

-- WHERE THEY WERE PUT
module _ (old new : VolumeView) (found : FoundStream) (f at : ℕ) (bytes : List ℕ)
    (can : CanMove old found f at (length bytes)) (put : List ℕ)
    (put_is : put ≡ written at bytes can.leave.named.held) where
  abbrev held : List ℕ
  held = can.leave.named.held

  -- as many as the stream then has
  pub put-long : length put ≡ at + length bytes
  put-long =
      let long = written-long at bytes held in
      let same = ap length put_is in
      let longer = can.longer in
      omega (arith, long, same, longer)

  pub left-written : (times : List ℕ) (flags : ℕ) → LeavesRecord old new f can.leave.named.name (at + length bytes) put times flags
      → PutsBytes old new f can.leave.named.name at bytes held times flags
  left-written times flags x =
      let n = can.leave.named in
      let some : 0 < length bytes = omega (arith, can.begins, can.longer) in
      let moves : MovesStream old x.mid f x.i n.name x.run (length (written at bytes held)) (written at bytes held) =
      subst (λ size. MovesStream old x.mid f x.i n.name x.run size (written at bytes held)) (sym put-long ∙ ap length put_is)
      (subst (MovesStream old x.mid f x.i n.name x.run (at + length bytes)) put_is x.moves) in
      put-of old x.mid new f n.name (Some (written at bytes held))
      (gained_by_write (cluster_bytes old.layout) (parts_at old f DATA n.name) at (length bytes)) [] (x.run ∷ [])
      (new_clusters (cluster_bytes old.layout) (parts_at old f DATA n.name) at (length bytes)) times flags
      (written-moved old x.mid f x.i at n.can.node n.asked n.name held bytes x.run n.can.can can.leave.one n.finds moves can.begins some)
      (written-few old x.mid f x.i at n.can.node n.asked n.name held bytes x.run n.can.can n.finds moves can.begins some)
      x.sets

-- WHERE IT GOT LONGER
pub left-resized : (old new : VolumeView) (found : FoundStream) (f size : ℕ) (can : CanLengthen old found f size) (put times : List ℕ)
    (flags : ℕ) → put ≡ can.leave.named.held → LeavesRecord old new f can.leave.named.name size put times flags
    → ResizesStream old new f can.leave.named.name size can.leave.named.held times flags
left-resized old new found f size can put times flags put_is x =
    let n = can.leave.named in
    let moves : MovesStream old x.mid f x.i n.name x.run size n.held =
    subst (MovesStream old x.mid f x.i n.name x.run size) put_is x.moves in
    let moved = lengthened-moved old x.mid f x.i size n.can.node n.asked n.name n.held x.run n.can.can can.leave.one n.finds moves
    can.longer in
    record {
      puts = record {
        mid = x.mid;
        puts = moved.0.puts;
        takes = subst (λ (runs : List Run). sum_by run_size runs
            ≤ count_by_length (cluster_bytes old.layout) (parts_at old f DATA n.name) (length n.held) size) (sym moved.0.taken_are)
            (lengthened-few old x.mid f x.i size n.can.node n.asked n.name n.held x.run n.can.can n.finds moves can.longer);
        sets = x.sets;
      };
      ends = moved.1;
    }

-- WHAT IS STAGED is within more.
pub staged-more : {D : Type 0} (g : Ghosts D) (few many f : ℕ) (before : VolumeView) (a b : Mft D g) → few ≤ many
    → StagesGiving g few f before a b → StagesGiving g many f before a b
staged-more g few many f before a b fits x = record {
  given = x.given;
  freed = x.freed;
  taken = x.taken;
  owned = x.owned;
  stages = few-more g (few + 12 * length (names_of (records_of before) f) + 2 * x.given + 2 * x.taken)
      (many + 12 * length (names_of (records_of before) f) + 2 * x.given + 2 * x.taken) (IsOfGiving before f) (IsOfGiving before f) a b
      x.stages (omega (arith, fits)) (λ s of. of);
}

-- .. of bytes that begin within a value, as short as one in a record
pub few-sectors : (at len all : ℕ) → at ≤ 1000 → all ≡ at + len → 10 + all / 512 ≤ 12 + len / 512
few-sectors at len all few is = omega (arith, few, is)

-- A VALUE THAT GETS LONGER within the last cluster that it fills has some bytes.
pub has-some : (v : VolumeView) (found : FoundStream) (f size : ℕ) (can : CanLengthen v found f size) → 0 < length can.leave.named.held
has-some v found f size can = elim (cases_lt 0 (length can.leave.named.held)) [
  | inl some ↦ some
  | inr none ↦
      let some = positive v found f size can.leave in
      let few = few-clusters (length can.leave.named.held) (cluster_bytes v.layout) some in
      let longer = can.longer in
      let one = some-clusters size (cluster_bytes v.layout) (omega (arith, longer)) some in
      absurd (omega (arith, few, one, can.last, none))
]
