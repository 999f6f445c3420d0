-- The disk stays as it is where a call reads and stages: for one call, and for one behind the other.
use Rattle.std.proofs.Common.{◌≡◌, ℕ, List, false, sym, ap, ◌∙◌, le_trans}
use Rattle.vol_disk.specs.declared.Disk.{Ghosts}
use Rattle.mft_table.specs.declared.mft.Mft.{Mft}
use Rattle.mft_table.specs.Mft.{KeepsDisk, MftReads, MftStages, is_mft_broken}
use Rattle.mft_table.proofs.StreamReads.{MftReads-none}

pub KeepsDisk-reads : {D : Type 0} (g : Ghosts D) (a b : Mft D g) (n : ℕ) → MftReads g a b n → KeepsDisk g a b
KeepsDisk-reads g a b n h = record {
  goes_on = h.stage.goes_on;
  now = h.stage.only_reads.now;
  settled = h.stage.only_reads.settled;
  fenced = h.stage.only_reads.fenced;
  written = h.stage.only_reads.written;
  late = h.stage.only_reads.late;
  broken = h.stage.only_reads.broken;
  mounted = h.mounted;
  committed = h.committed;
}

pub KeepsDisk-same : {D : Type 0} (g : Ghosts D) (a : Mft D g) → KeepsDisk g a a
KeepsDisk-same g a = KeepsDisk-reads g a a 0 (MftReads-none g a)

pub KeepsDisk-then : {D : Type 0} (g : Ghosts D) (a b c : Mft D g) → KeepsDisk g a b → KeepsDisk g b c → KeepsDisk g a c
KeepsDisk-then g a b c first second = record {
  goes_on = record {
    same_reference = second.goes_on.same_reference ∙ first.goes_on.same_reference;
    size = second.goes_on.size ∙ first.goes_on.size;
    told = second.goes_on.told ∙ first.goes_on.told;
    told_image = second.goes_on.told_image ∙ first.goes_on.told_image;
    one = second.goes_on.one;
    faults = le_trans first.goes_on.faults second.goes_on.faults;
    on_time = λ none. second.late ∙ first.late;
  };
  now = second.now ∙ first.now;
  settled = second.settled ∙ first.settled;
  fenced = second.fenced ∙ first.fenced;
  written = second.written ∙ first.written;
  late = second.late ∙ first.late;
  broken = second.broken ∙ first.broken;
  mounted = second.mounted ∙ first.mounted;
  committed = second.committed ∙ first.committed;
}

-- what stages leaves the disk below
pub KeepsDisk-stages : {D : Type 0} (g : Ghosts D) (a b : Mft D g) (named : List ℕ) (n : ℕ) → is_mft_broken g a ≡ false
    → MftStages g named n a b
    → KeepsDisk g a b
KeepsDisk-stages g a b named n sound h = record {
  goes_on = h.goes_on;
  now = ap g.now h.disk;
  settled = ap g.settled h.disk;
  fenced = ap g.fenced h.disk;
  written = ap g.written h.disk;
  late = ap g.late h.disk;
  broken = h.sound ∙ sym sound;
  mounted = h.mounted;
  committed = h.committed;
}
