use Rattle.std.proofs.Common.{◌≡◌, ◌+◌, ◌*◌, ◌-◌, ◌<◌, ◌≤◌, ℕ, None, IsTrue, length, get_or, take}
use Rattle.std.specs.List.Sorted.{IsNonDecreasingBy}
use Rattle.volume_def.specs.Files.{records_of}
use Rattle.volume_def.specs.ListsClause.{MeetsLists}
use Rattle.volume_def.specs.ShapeClause.{MeetsShape}
use Rattle.volume_def.specs.Table.{cluster_bytes}
use Rattle.mft_table.specs.Mft.{MftReads, faults_of, view}
use Rattle.record_notes.specs.declared.spread.Extension.{Extension}
use Rattle.record_notes.specs.Spread.{SpreadNote, extensions_of}
use Rattle.record_notes.specs.Unlisted.{MeetsListed}
use Rattle.check_records.specs.Listed.{MeetsListedLists}
use Rattle.check_records.proofs.ListedLoopLaws.{IsLeastSeen}
use Rattle.check_records.proofs.wrong_files.first_wrong_listed.Given as goal

abbrev pub invariant-loop-f : goal.invariant-loop-f
invariant-loop-f g l = record {
  rising : IsNonDecreasingBy (λ (extension : Extension). extension.file) l.rest;
  few : length l.rest ≤ length l.spread.extensions.items;
  reads : MftReads g.D.Disk l.fn.mft l.mft (514 * l.f-index + 2 * (length l.spread.extensions.items - length l.rest));
  faults : faults_of g.D.Disk l.mft ≡ faults_of g.D.Disk l.fn.mft;
  later : SpreadNote (records_of (view g.D.Disk l.fn.mft)) (view g.D.Disk l.fn.mft).layout.count l.spread
      → (j : ℕ) → l.f-index ≤ j → j < length l.spread.listed.items
      → extensions_of (get_or l.spread.listed.items j 0) l.rest ≡ extensions_of (get_or l.spread.listed.items j 0) l.initial.rest;
  lists : IsTrue (view g.D.Disk l.fn.mft).told → ((n : ℕ) → MeetsShape (view g.D.Disk l.fn.mft) n)
      → SpreadNote (records_of (view g.D.Disk l.fn.mft)) (view g.D.Disk l.fn.mft).layout.count l.spread
      → IsLeastSeen (MeetsListedLists (view g.D.Disk l.fn.mft)) (take l.f-index l.spread.listed.items) None;
  extents : IsTrue (view g.D.Disk l.fn.mft).told → ((n : ℕ) → MeetsShape (view g.D.Disk l.fn.mft) n)
      → SpreadNote (records_of (view g.D.Disk l.fn.mft)) (view g.D.Disk l.fn.mft).layout.count l.spread
      → ((n : ℕ) → MeetsLists (view g.D.Disk l.fn.mft) n)
      → IsLeastSeen (MeetsListed (records_of (view g.D.Disk l.fn.mft)) (cluster_bytes (view g.D.Disk l.fn.mft).layout))
      (take l.f-index l.spread.listed.items) l.extents;
}
