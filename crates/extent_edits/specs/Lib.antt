pub mod Cut
pub mod Extended
pub mod Texts
pub mod Numbers
pub mod Bytes
-- Words of the crates below, passed on to those above.
pub use Rattle.file_record.specs.Attributes
