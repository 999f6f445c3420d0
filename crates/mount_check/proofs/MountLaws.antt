-- From what the three calls say of a disk to what is said of it in the end.
use Rattle.std.proofs.Common.{◌+◌, ◌/◌, ℕ, List, length, Option, Some, sym, subst, ◌∙◌, arith}
use Rattle.vol_disk.specs.Contents.{sector_in}
use Rattle.vol_disk.specs.Reading.{DiskReads}
use Rattle.vol_disk.specs.declared.Disk.{Ghosts}
use Rattle.ntfs_def.specs.Boot.{boot_sector}
use Rattle.volume_def.specs.Sound.{IsRefused}
use Rattle.mft_table.specs.declared.mount.MountNo.{MountNo}
use Rattle.mft_table.specs.declared.mount.MountNo.TheVariants as no
use Rattle.check_records.specs.Refusals.{IsRefusal}
use Rattle.check_dirs.specs.Refusals.{IsIndexRefusal}
use Rattle.mount_check.specs.Refusals.{IsMountNo}

-- a refusal by a clause on records
pub IsMountNo-records : (told : Option (List ℕ)) (refusal : MountNo) → IsRefusal told refusal → IsMountNo told refusal
IsMountNo-records told (no.Refused k n) h = λ image is. (h image is).1
IsMountNo-records told no.Dirty h = absurd h
IsMountNo-records told no.Device h = tt
IsMountNo-records told no.Memory h = tt

-- .. and by the clause on indexes
pub IsMountNo-indexes : (told : Option (List ℕ)) (refusal : MountNo) → IsIndexRefusal told refusal → IsMountNo told refusal
IsMountNo-indexes told (no.Refused k n) h = λ image is.
    let x = h image is in
    subst (λ k. IsRefused (sector_in (Some image)) (boot_sector image) (length image / 512) k n) (sym x.0) x.1
IsMountNo-indexes told no.Dirty h = absurd h
IsMountNo-indexes told no.Device h = tt
IsMountNo-indexes told no.Memory h = tt

-- one reading after another
pub DiskReads-then : {D : Type 0} (g : Ghosts D) (a b c : D) (m n : ℕ) → DiskReads g a b m → DiskReads g b c n
    → DiskReads g a c (m + n)
DiskReads-then g a b c m n first last = record {
  now = last.now ∙ first.now;
  settled = last.settled ∙ first.settled;
  fenced = last.fenced ∙ first.fenced;
  size = last.size ∙ first.size;
  written = last.written ∙ first.written;
  late = last.late ∙ first.late;
  fetched = omega (arith, first.fetched, last.fetched);
}
