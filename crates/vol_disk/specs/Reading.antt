-- What reading a disk leaves as it was.
use Rattle.std.specs.Prelude.{◌≡◌, ℕ, ◌+◌, ◌≤◌}
use Rattle.vol_disk.specs.declared.Disk as disk

-- all but the count of reads, which rose by at most so many, and the count of faults
pub record DiskReads {D : Type 0} (g : disk.Ghosts D) (old new : D) (reads : ℕ) : Type 0 where
  pub now : g.now new ≡ g.now old
  pub settled : g.settled new ≡ g.settled old
  pub fenced : g.fenced new ≡ g.fenced old
  pub size : g.size new ≡ g.size old
  pub written : g.written new ≡ g.written old
  pub late : g.late new ≡ g.late old
  pub fetched : g.fetched new ≤ g.fetched old + reads
