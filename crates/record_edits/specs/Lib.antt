pub mod Between
pub mod Owners
pub mod Whole
pub mod RecordEdit
pub mod Pending
pub mod InPlace
pub mod Given
