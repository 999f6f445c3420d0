-- What a disk of frames shows.
use Rattle.std.specs.Prelude.{◌/◌, ℕ}
use Rattle.vol_disk.specs.declared.Disk as disk
use Rattle.frame_disk.specs.Frames.{IsIn, slot_of}
use Rattle.frame_disk.specs.declared.frames.FrameDisk.{FrameDisk}

-- the disk that it stands over
abbrev pub inner_of : {D : Type 0} (g : disk.Ghosts D) → FrameDisk D g → D
inner_of g framed = framed.disk

-- THE FRAME OF A SECTOR is held.
abbrev pub IsHeld : {D : Type 0} (g : disk.Ghosts D) → FrameDisk D g → ℕ → Type 0
IsHeld g framed sector = IsIn framed.held.items (slot_of (sector / 8)) (sector / 8)
