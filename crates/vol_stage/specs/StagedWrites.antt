-- Staged sectors, and contents with them.
use Rattle.std.specs.Prelude.{◌≡◌, ◌<◌, ℕ, List, length, map, Option, All}
use Rattle.std.specs.List.{AllPairs}
use Rattle.vol_disk.specs.Contents.{map_told}
use Rattle.vol_disk.specs.Replay.{replay}
use Rattle.vol_disk.specs.declared.mem_disk.Write.{Write}

-- each write is of a sector of the disk
abbrev pub AreWithin : ℕ → List Write → Type 0
AreWithin size writes = All (λ write. write.sector < size) writes

-- and has a sector's bytes
abbrev pub HaveSectorLength : List Write → Type 0
HaveSectorLength writes = All (λ write. length write.bytes ≡ 512) writes

-- each write is of a lower sector than those behind it: so no sector has two
abbrev pub AreRising : List Write → Type 0
AreRising writes = AllPairs (λ write behind. write.sector < behind.sector) writes

-- the sectors of the writes
unfoldable pub places_of : List Write → List ℕ
places_of writes = map (λ write. write.sector) writes

-- the contents with the writes, where they are told
abbrev pub image_of : Option (List ℕ) → List Write → Option (List ℕ)
image_of now writes = map_told (replay writes) now
