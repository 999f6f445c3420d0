-- What the calls of an index's records answer.
use Rattle.std.specs.Prelude.{◌≡◌, ℕ}
use Rattle.vol_disk.specs.Count.{Rose}
use Rattle.index_node.specs.declared.blocks.BlockNo.{BlockNo}
use Rattle.index_node.specs.declared.blocks.BlockNo.TheVariants.{Device, NoRoom, Memory}

-- Why a call that only reads fails, and what that did to the count of the disk's faults: the disk failed, and the count
-- rose, or there was no memory, and it stayed.
abbrev pub CountsNo : ℕ → ℕ → BlockNo → Type 0
CountsNo before after Device = Rose before after
CountsNo before after NoRoom = ⊥
CountsNo before after Memory = after ≡ before
