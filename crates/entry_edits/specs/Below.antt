-- WORDS OF THE CRATES BELOW, passed on to those above, which so name this crate alone.
pub use Rattle.dir_index.specs.Standard.{SetsStandard, TellsNode, hidden_flags}
pub use Rattle.dir_index.specs.declared.entry.DuplicatedInformation.{DuplicatedInformation}
pub use Rattle.dir_index.specs.Links.{names_index}
pub use Rattle.dir_index.specs.Refreshed.{RefreshesEntry, RefreshesItem}
pub use Rattle.dir_index.specs.Below.{index_record_on, is_index_record_at}
