-- WORDS OF THE CRATES BELOW, passed on to those above, which so name this crate alone.
pub use Rattle.dir_index.specs.Standard.{IsInitialized, StagesRecordOf}
pub use Rattle.dir_index.specs.Links.{names_index}
pub use Rattle.attribute_edits.specs.Attributes.{dirs_of, is_told_key}
pub use Rattle.attribute_edits.specs.Below.{SetsAttributes, index_name}
pub use Rattle.file_room.specs.Nodes.{number_of, parts_in}
