-- LAWS OF THE CRATES BELOW that those above cite, passed on.
pub use Rattle.record_calls.proofs.Values.{AreValues, body-none, body-value, no-times, no-value, one-value, value-mapped}
pub use Rattle.record_calls.proofs.ValueEdits.{has-none, value-content, value-size}
pub use Rattle.record_calls.proofs.RightRecords.{right-change, right-go, right-put}
pub use Rattle.record_calls.proofs.WholeCalls.{is-file, own-file}
pub use Rattle.record_calls.proofs.ValueAlone.{value-alone}
pub use Rattle.command_edits.proofs.LinksAfter.{links-same}
pub use Rattle.command_edits.proofs.HiddenFiles.{hides-kept}
pub use Rattle.command_edits.proofs.ReadingEditsCallsRead.{read-sets}
pub use Rattle.command_edits.proofs.CallKeys.{within-nothing}
pub use Rattle.command_edits.proofs.QuietCalls.{between-quiet}
pub use Rattle.command_edits.proofs.SoundBetween.{between-references, between-sound, sound-by, sound-stored, sound-whole}
pub use Rattle.in_place.proofs.PlacesSame.{names-same, value-other}
pub use Rattle.in_place.proofs.StillApart.{apart-sound}
pub use Rattle.in_place.proofs.SameRecords.{on-same, spots-same}
pub use Rattle.in_place.proofs.KeptInPlace.{kept-room}
pub use Rattle.in_place.proofs.RoomSame.{used-same}
pub use Rattle.in_place.proofs.OtherClusters.{clusters-kept}
pub use Rattle.in_place.proofs.RewriteLaws.{Rewrites-then}
