pub mod EntryLaws
pub mod SlotLaws
pub mod TableSlots
