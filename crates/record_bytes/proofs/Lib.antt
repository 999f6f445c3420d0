pub mod ResidentLaws
pub mod ExtentLaws
pub mod NewRecordLaws
pub mod EmptyRecordLaws
