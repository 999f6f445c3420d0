pub mod ListEntryLaws
pub mod LeftLaws
pub mod ListMoved
pub mod SplicedLists
pub mod PlaceLaws
pub mod EditLaws
pub mod NewEntryLaws
pub mod MovedBytes
