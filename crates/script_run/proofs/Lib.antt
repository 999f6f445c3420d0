pub mod ReplyLaws
pub mod TurnLaws
pub mod LineLaws
pub mod CloseLaws
pub mod BeginLaws
pub mod RanLaws
pub mod ShownLaws
mod DrawLaws
mod TellLaws
mod EndLaws
