pub mod GrownRoot
pub mod CanPut
pub mod PutsInRoot
-- Words of the crates below, passed on to those above.
pub use Rattle.index_puts.specs.PutsItem
pub use Rattle.index_puts.specs.Held
pub use Rattle.index_puts.specs.Attributes
pub use Rattle.index_puts.specs.Replaced
pub use Rattle.index_puts.specs.Index
pub use Rattle.index_puts.specs.FileRecordAttributes
pub use Rattle.index_puts.specs.Extensions
pub use Rattle.index_puts.specs.Edit
pub use Rattle.command_edits.specs.Between
pub use Rattle.command_edits.specs.Calls
pub use Rattle.command_edits.specs.Keys
pub use Rattle.command_edits.specs.NewFiles
pub use Rattle.command_edits.specs.Steps
pub use Rattle.record_calls.specs.Calls as RecordCalls
pub use Rattle.record_calls.specs.Edits
pub use Rattle.record_calls.specs.Files
pub use Rattle.record_calls.specs.Links
pub use Rattle.record_calls.specs.Marks
pub use Rattle.record_calls.specs.Steps as RecordSteps
pub use Rattle.dir_index.specs.Standard
