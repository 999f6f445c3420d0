pub mod Moved
pub mod Bytes
-- Words of the crates below, passed on to those above.
pub use Rattle.file_record.specs.Attributes
