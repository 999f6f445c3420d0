-- THE BILL of a command that makes a file, or a directory, under a name in a directory: it touches that and the new file, and counts one
-- entry of its index.
use Rattle.std.specs.Prelude.{ℕ, Bool}
use Rattle.volume_def.specs.View.{VolumeView}
use Rattle.tree_model.specs.Need.{Bill}
use Rattle.edit_def.specs.OneFile.{touched_alone}
use Rattle.file_room.specs.Asked.{bill_making}

-- of a directory whose index is so deep
abbrev pub made_bill : VolumeView → Bool → ℕ → ℕ → Bill
made_bill view directory dir depth = bill_making directory (touched_alone view dir) depth
