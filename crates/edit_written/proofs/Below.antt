-- LAWS OF THE CRATES BELOW that those above cite, passed on.
pub use Rattle.value_owed.proofs.ValueCommands.{value-room}
pub use Rattle.value_owed.proofs.Below.{file, held, named-same, not-table, overwritten, resized-long, shown, stream-put, value, value-is}
pub use Rattle.value_owed.proofs.Below.{value-overwritten, was, with_value, written-long}
pub use Rattle.value_owed.proofs.ValueSame.{at-same, first_cost-same, layout, names-same, other-file}
pub use Rattle.value_owed.proofs.FewClusters.{extent-len, value-len}
pub use Rattle.value_owed.proofs.ValueOwes.{leaves}
