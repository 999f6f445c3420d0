use Rattle.check_dirs.proofs.VolumeLaws.{directory_from_ordered, ordered_from_directory}
use Rattle.check_dirs.proofs.laws.checked_directories.Goals as goal

pub returns : goal.returns
returns c = record {
  holds = λ view f records root items are parts. directory_from_ordered view f records are root parts items;
  held = λ view f records root are parts. ordered_from_directory view f records are root parts;
}
