pub mod AttributeBytes
pub mod Entries
pub mod NewRecord
