-- WORDS OF THE CRATES BELOW, passed on to those above, which so name this crate alone.
pub use Rattle.index_store.specs.IndexRecords.{index_record_on, is_index_record_at}
