use Rattle.std.proofs.Common.{◌≡◌, ◌*◌}
use Rattle.std.specs.Int.{div_ceil}
use Rattle.file_record.specs.Held.{held_of}
use Rattle.record_notes.specs.Streams.{NotesStream, places_in}
use Rattle.mount_check.proofs.PlaceLaws.{data_of_first}
use Rattle.mount_check.proofs.mirror_place.note_copies.Given as goal

-- the parts of the records so far are noted
abbrev pub invariant-loop-held : goal.invariant-loop-held
invariant-loop-held l = record {
  noted : NotesStream (data_of_first (held_of l.file) l.held-index) l.note;
  places : places_in l.note ≡ div_ceil 4096 (512 * l.sectors);
}
