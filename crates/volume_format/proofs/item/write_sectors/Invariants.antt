use Rattle.std.proofs.Common.{◌≡◌, ◌⊎◌, ◌+◌, ◌<◌, ◌≤◌, ℕ}
use Rattle.vol_disk.specs.Contents.{IsTold, sector_in}
use Rattle.volume_format.specs.Items.{item_sector}
use Rattle.volume_format.specs.Written.{WritesOn}
use Rattle.volume_format.proofs.item.write_sectors.Given as goal

abbrev pub invariant-loop-k : goal.invariant-loop-k
invariant-loop-k g l = record {
  here : IsTold (g.D.Disk.now l.fn.disk) → (j : ℕ) → j < l.k
      → sector_in (g.D.Disk.now l.disk) (l.fn.first + j) ≡ item_sector (g.I.Item.rule l.fn.item) j;
  others : (sector : ℕ) → (sector < l.fn.first) ⊎ (l.fn.first + l.fn.count ≤ sector)
      → sector_in (g.D.Disk.now l.disk) sector ≡ sector_in (g.D.Disk.now l.fn.disk) sector;
  keeps : WritesOn g.D.Disk l.fn.disk l.disk;
  faults : g.D.Disk.faults l.disk ≡ g.D.Disk.faults l.fn.disk;
  on_time : g.D.Disk.faults l.fn.disk ≡ 0 → g.D.Disk.late l.disk ≡ g.D.Disk.late l.fn.disk;
}
