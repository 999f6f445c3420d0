-- WHAT IS KEPT of the device and of the tables, over calls one behind the other.
use Rattle.std.proofs.Common.{ap, ◌∙◌}
use Rattle.std.proofs.Math.Nat.{le_trans}
use Rattle.vol_disk.specs.declared.Disk.{Ghosts}
use Rattle.mft_table.specs.declared.mft.Mft.{Mft}
use Rattle.mft_table.specs.declared.mounted.Mounted.{Mounted}
use Rattle.mft_table.specs.Mft.{KeepsDisk, mounted_of}
use Rattle.mft_table.proofs.DiskKept.{KeepsDisk-same}
use Rattle.stored_bits.specs.Given.{KeepsDevice}

pub device-disk : {D : Type 0} (g : Ghosts D) (a b : Mft D g) → KeepsDisk g a b → KeepsDevice g a b
device-disk g a b d = record {
  goes_on = d.goes_on;
  now = d.now;
  settled = d.settled;
  fenced = d.fenced;
  written = d.written;
  late = d.late;
  broken = d.broken;
  committed = d.committed;
  clusters = (mounted_of g a).clusters;
  mounted = d.mounted;
}

pub device-same : {D : Type 0} (g : Ghosts D) (a : Mft D g) → KeepsDevice g a a
device-same g a = device-disk g a a (KeepsDisk-same g a)

pub device-then : {D : Type 0} (g : Ghosts D) (a b c : Mft D g) → KeepsDevice g a b → KeepsDevice g b c → KeepsDevice g a c
device-then g a b c first second = record {
  goes_on = record {
    same_reference = second.goes_on.same_reference ∙ first.goes_on.same_reference;
    size = second.goes_on.size ∙ first.goes_on.size;
    told = second.goes_on.told ∙ first.goes_on.told;
    told_image = second.goes_on.told_image ∙ first.goes_on.told_image;
    one = second.goes_on.one;
    faults = le_trans first.goes_on.faults second.goes_on.faults;
    on_time = λ none. second.late ∙ first.late;
  };
  now = second.now ∙ first.now;
  settled = second.settled ∙ first.settled;
  fenced = second.fenced ∙ first.fenced;
  written = second.written ∙ first.written;
  late = second.late ∙ first.late;
  broken = second.broken ∙ first.broken;
  committed = second.committed ∙ first.committed;
  clusters = second.clusters;
  mounted = second.mounted ∙ ap (λ (m : Mounted). record m { clusters = second.clusters }) first.mounted;
}
