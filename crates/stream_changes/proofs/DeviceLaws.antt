-- CALLS ONE BEHIND ANOTHER, of which some changed the flags of clusters that are kept in memory.
use Rattle.vol_disk.specs.declared.Disk.{Ghosts}
use Rattle.mft_table.specs.declared.mft.Mft.{Mft}
use Rattle.mft_table.specs.Mft.{KeepsDisk}
use Rattle.stored_bits.specs.Given.{KeepsDevice}
use Rattle.stored_bits.proofs.DeviceKept.{device-disk, device-then}

-- what keeps the tables, and then what keeps the device
pub device-behind : {D : Type 0} (g : Ghosts D) (a b c : Mft D g) → KeepsDisk g a b → KeepsDevice g b c → KeepsDevice g a c
device-behind g a b c x y = device-then g a b c (device-disk g a b x) y
