use Rattle.std.specs.Prelude.{All}
use Rattle.volume_def.specs.AttributesClause.{IsRightPart}
use Rattle.file_record.specs.Held.{parts_held}
use Rattle.file_record.specs.Left.{attributes_left}
use Rattle.check_dirs.proofs.FileLaws.{StandsBehind}
use Rattle.check_dirs.proofs.file.stands_in_extend.Given as goal

-- those that were passed over do not stand so
abbrev pub invariant-loop-attribute : goal.invariant-loop-attribute
invariant-loop-attribute l =
    All IsRightPart (parts_held l.file) → StandsBehind l.letters (parts_held l.file) (attributes_left l.attribute-iterator)
