-- THE LISTS THAT A STREAM SHOWS, as the commands make them.
use Rattle.std.proofs.Common.{◌≡◌, ◌<◌, ◌≤◌, ◌+◌, max, ℕ, false, List, length, map, refl, sym, ap, subst, ◌∙◌, arith}
use Rattle.std.specs.Prelude.{slice_index}
use Rattle.std.specs.List.{range_with_len}
use Rattle.std.proofs.lemmas.List.{get_or_past}
use Rattle.std.proofs.lemmas.List.FromFn.{get_or-map-range_with_len, length-map-range_with_len}
use Rattle.ntfs_def.specs.Flags.{is_packed}
use Rattle.volume_def.specs.Values.{value_on}
use Rattle.volume_def.specs.View.{VolumeView}
use Rattle.list_laws.proofs.RangeLaws.{by_places}
use Rattle.tree_model.specs.Streams.{punched, resized, written}
use Rattle.edit_def.specs.Kept.{Key}
use Rattle.stream_edits.specs.Steps.{Cuts, Places, PunchesRange, Raises, WritesRange, punched_byte, written_byte}
use Rattle.stream_edits.specs.Streams.{ClusterStream, HasStream, ShowsBytes, Shows, ShowsList, byte_of, extents_at}
use Rattle.stream_edits.proofs.ByteLists.{punched-list, resized-list, written-list}
use Rattle.stream_edits.proofs.EditedStreams.{stream-held}
use Rattle.stream_edits.proofs.ShownPunch.{shows-punched}
use Rattle.stream_edits.proofs.ShownSteps.{shows-cut, shows-placed, shows-raised, value-shown}
use Rattle.stream_edits.proofs.ShownWrite.{shows-written}

-- bytes that are those of a list
by-list : (s : ClusterStream) (byte : ℕ → ℕ) (n : ℕ) (bytes : List ℕ) → Shows s byte n → map byte (range_with_len 0 n) ≡ bytes
    → ShowsList s bytes
by-list s byte n bytes shows e =
    let size : n ≡ length bytes = sym (length-map-range_with_len byte 0 n) ∙ ap length e in
    record {
      len = shows.len ∙ size;
      bytes = λ i h.
          let inside : i < n = omega (arith, h, size) in
          let place : 0 + i ≡ i = omega arith in
          shows.bytes i inside ∙ sym (ap (λ l. slice_index l i) (sym e) ∙ get_or-map-range_with_len byte 0 n i i 0 inside place);
    }

past-end : (value : List ℕ) (i : ℕ) → length value ≤ i → slice_index value i ≡ 0
past-end value i h = get_or_past value i 0 h

pub list-placed : (s t : ClusterStream) (value : List ℕ) (from to : ℕ) → Places s t from to → ShowsList s value → ShowsList t value
list-placed s t value from to p shows = shows-placed s t from to (slice_index value) (length value) p shows

pub list-written : (s t : ClusterStream) (value bytes : List ℕ) (at from to : ℕ) → WritesRange s t at bytes from to → ShowsList s value
    → ShowsList t (written at bytes value)
list-written s t value bytes at from to w shows =
    by-list t (written_byte (slice_index value) at bytes) (max (length value) (at + length bytes)) (written at bytes value)
    (shows-written s t at from to bytes (slice_index value) (length value) w (past-end value) shows) (written-list value bytes at)

pub list-cut : (s t : ClusterStream) (value : List ℕ) (size : ℕ) → Cuts s t size → ShowsList s value → ShowsList t (resized size value)
list-cut s t value size c shows =
    by-list t (slice_index value) size (resized size value) (shows-cut s t (length value) size (slice_index value) c shows)
    (resized-list value size)

pub list-raised : (s t : ClusterStream) (value : List ℕ) → Raises s t → ShowsList s value → ShowsList t (resized t.real value)
list-raised s t value r shows =
    by-list t (slice_index value) t.real (resized t.real value)
    (shows-raised s t (slice_index value) (length value) t.real r refl (past-end value) shows) (resized-list value t.real)

pub list-punched : (s t : ClusterStream) (value : List ℕ) (from len : ℕ) → PunchesRange s t from (from + len) → ShowsList s value
    → ShowsList t (punched from len value)
list-punched s t value from len p shows =
    by-list t (punched_byte (slice_index value) from (from + len)) (length value) (punched from len value)
    (shows-punched s t from (from + len) (slice_index value) (length value) p shows) (punched-list value from len)

-- WHAT A STREAM SHOWS is its value, and its value what it shows.
pub list-held : (view : VolumeView) (key : Key) (flags : ℕ) (s : ClusterStream) (value : List ℕ) → HasStream view key flags s
    → ShowsList s value → is_packed key.kind flags ≡ false → ShowsBytes view key value
list-held view key flags s value has shows plain =
    subst (ShowsBytes view key) (by_places value)
    (stream-held view key flags s (slice_index value) (length value) has shows plain)

pub list-shown : (view : VolumeView) (key : Key) (flags : ℕ) (s : ClusterStream) → HasStream view key flags s
    → ShowsList s (value_on view (extents_at view key))
list-shown view key flags s has =
    by-list s (byte_of s) s.real (value_on view (extents_at view key)) (record { len = refl; bytes = λ i h. refl })
    (sym (value-shown view key flags s (byte_of s) s.real has (record { len = refl; bytes = λ i h. refl })))
