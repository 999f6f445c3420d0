use Rattle.std.proofs.Common.{◌≤◌, length, take}
use Rattle.std.specs.List.{All, flat_map}
use Rattle.ntfs_def.specs.Record.{reference_in}
use Rattle.volume_def.specs.View.{VolumeView}
use Rattle.file_record.specs.Held.{held_of, parts_of}
use Rattle.check_dirs.specs.Noted.{IsHeldRight, NotesNames}
use Rattle.check_dirs.proofs.noting.note_names.Given as goal

abbrev pub invariant-loop-held : goal.invariant-loop-held
invariant-loop-held l = record {
  grows : length l.fn.names.items ≤ length l.names.items;
  noted : (view : VolumeView) → All (IsHeldRight view) (held_of l.parts)
      → NotesNames view (reference_in l.file) (flat_map parts_of (take l.held-index (held_of l.parts))) l.fn.names.items l.names.items;
}
