-- SECTORS BEHIND ONE ANOTHER, as one call of a disk gives them.
use Rattle.std.specs.Prelude.{◌≡◌, ◌+◌, ◌*◌, ◌<◌, ℕ, List, length, Option}
use Rattle.vol_disk.specs.Contents.{sector_in, sector_of}
use Rattle.vol_disk.specs.declared.Disk as disk

-- the bytes are those of the sectors from `first` on
abbrev pub HasSectors : Option (List ℕ) → ℕ → List ℕ → Type 0
HasSectors now first bytes = (k : ℕ) → 512 * k < length bytes → sector_of bytes k ≡ sector_in now (first + k)

-- all that a disk tells stays as it was, its counts too
pub record KeepsAll {D : Type 0} (g : disk.Ghosts D) (old new : D) : Type 0 where
  pub now : g.now new ≡ g.now old
  pub settled : g.settled new ≡ g.settled old
  pub fenced : g.fenced new ≡ g.fenced old
  pub size : g.size new ≡ g.size old
  pub faults : g.faults new ≡ g.faults old
  pub written : g.written new ≡ g.written old
  pub fetched : g.fetched new ≡ g.fetched old
  pub late : g.late new ≡ g.late old
