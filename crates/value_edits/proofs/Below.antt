-- LAWS OF THE CRATES BELOW that those above cite, passed on.
pub use Rattle.stream_overwrites.proofs.OverReading.{overwritten, value, value-is, value-overwritten, was}
pub use Rattle.stream_overwrites.proofs.ShownFile.{file, may-edit, node-streams, not-bad, not-case, not-table}
pub use Rattle.stream_overwrites.proofs.StreamParts.{attribute, named-same}
pub use Rattle.stream_overwrites.proofs.ValueVolume.{held, with_value}
pub use Rattle.stream_overwrites.proofs.Below.{body-value}
pub use Rattle.in_place_owed.proofs.MarksLaws.{marks-right, right_marks}
pub use Rattle.in_place_owed.proofs.Below.{Rewrites-then, times-same}
