-- LAWS OF THE CRATES BELOW that those above cite, passed on.
pub use Rattle.index_store.proofs.IndexRecordLaws.{records-of}
