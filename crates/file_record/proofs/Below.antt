-- LAWS OF THE CRATES BELOW that those above cite beside their definitions, passed on.
pub use Rattle.mft_table.proofs.StreamReads.{MftReads-none, MftReads-then}
pub use Rattle.mft_table.proofs.DiskKept.{KeepsDisk-reads, KeepsDisk-then}
pub use Rattle.volume_edits.proofs.ChangedStream.{ChangesStream-none, ChangesStream-then}
