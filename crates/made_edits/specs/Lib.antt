pub mod Between
pub mod Beside
pub mod Comes
pub mod Left
pub mod Made
pub mod Wants
pub mod Makes
-- Words of the crates below, passed on to those above.
pub use Rattle.root_puts.specs.PutsItem
pub use Rattle.root_puts.specs.Held
pub use Rattle.root_puts.specs.CanPut
pub use Rattle.root_puts.specs.PutsInRoot
pub use Rattle.root_puts.specs.RecordCalls
pub use Rattle.root_puts.specs.Standard
pub use Rattle.record_edits.specs.Between as RecordEditsBetween
pub use Rattle.root_puts.specs.Marks
pub use Rattle.root_puts.specs.Calls
pub use Rattle.root_puts.specs.Keys
pub use Rattle.record_bits.specs.HeldRecordBits
pub use Rattle.record_bits.specs.StoredRecordBit
pub use Rattle.root_puts.specs.Replaced
pub use Rattle.root_puts.specs.Index
pub use Rattle.in_place.specs.InPlace
pub use Rattle.in_place.specs.Blank
pub use Rattle.root_puts.specs.Steps
pub use Rattle.mft_table.specs.declared.mounted.Mounted
pub use Rattle.mft_table.specs.HeldTables
