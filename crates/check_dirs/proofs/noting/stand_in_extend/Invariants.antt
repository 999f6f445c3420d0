use Rattle.std.proofs.Common.{◌≡◌, ◌==◌, false, take}
use Rattle.std.specs.List.{list_any}
use Rattle.ntfs_def.specs.declared.records.TheConstants.{EXTEND}
use Rattle.check_dirs.proofs.noting.stand_in_extend.Given as goal

abbrev pub invariant-loop-note : goal.invariant-loop-note
invariant-loop-note l = list_any (λ note. note.directory == EXTEND) (take l.note-index l.names) ≡ false
