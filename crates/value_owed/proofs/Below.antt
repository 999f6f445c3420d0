-- LAWS OF THE CRATES BELOW that those above cite, passed on.
pub use Rattle.value_edits.proofs.StreamPut.{stream-put}
pub use Rattle.value_edits.proofs.ValueCalls.{shown}
pub use Rattle.value_edits.proofs.WrittenBytes.{resized-long, written-long}
pub use Rattle.value_edits.proofs.Below.{file, held, named-same, not-table, overwritten, value, value-is, value-overwritten, was}
pub use Rattle.value_edits.proofs.Below.{with_value}
pub use Rattle.value_edits.proofs.EditedRecord.{apart-flagged, apart-freed, apart-mid, one-mid}
