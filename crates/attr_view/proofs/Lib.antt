pub mod OneShape
pub mod LeftLaws
pub mod InsertLaws
pub mod HeaderLaws
mod HeadLaws
mod RemoveLaws
mod RefitLaws
mod RangeWrites
mod ValueLaws
mod ResizedBytes
pub mod SizeLaws
mod ListedLaws
