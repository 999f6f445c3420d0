-- What a disk in memory shows.
use Rattle.std.specs.Prelude.{ℕ, ◌-◌, true, List, [], ◌∷◌, ◌++◌, length, take}
use Rattle.vol_disk.specs.Counting.{after_write}
use Rattle.vol_disk.specs.Replay.{replay, contents_at}
use Rattle.vol_disk.specs.declared.counts.Counts.{Counts}
use Rattle.vol_disk.specs.declared.mem_disk.MemDisk.{MemDisk}
use Rattle.vol_disk.specs.declared.mem_disk.Write.{Write}

-- The first contents, the writes that answered Ok, for each settle that did the number of writes
-- before it, the number of writes before the last barrier, how many writes and settles there is room for, and the counts.
pub record MemState : Type 0 where
  pub first : List ℕ
  pub writes : List Write
  pub settles : List ℕ
  pub fence : ℕ
  pub room : ℕ
  pub sectors : ℕ
  pub counts : Counts

abbrev pub state_of : MemDisk → MemState
state_of disk = record {
  first = disk.first.items;
  writes = disk.writes.items;
  settles = disk.settles.items;
  fence = disk.fence;
  room = disk.room;
  sectors = disk.sectors;
  counts = disk.counts;
}

-- one more write
abbrev pub with_write : MemState → Write → MemState
with_write disk write = record disk { writes = disk.writes ++ write ∷ []; room = disk.room - 1; counts = after_write true disk.counts }

-- one more settle, behind all writes
abbrev pub with_settle : MemState → MemState
with_settle disk = record disk { settles = disk.settles ++ length disk.writes ∷ []; room = disk.room - 1 }

-- the contents that a read gives
abbrev pub contents_of : MemDisk → List ℕ
contents_of disk = replay disk.writes.items disk.first.items

-- the contents at the last barrier, and at first those that it was made with
abbrev pub fenced_of : MemDisk → List ℕ
fenced_of disk = replay (take disk.fence disk.writes.items) disk.first.items

-- one more barrier, behind all writes
abbrev pub with_barrier : MemState → MemState
with_barrier disk = record disk { fence = length disk.writes }

-- the contents at each settle
abbrev pub settled_of : MemDisk → List (List ℕ)
settled_of disk = contents_at disk.settles.items disk.writes.items disk.first.items
