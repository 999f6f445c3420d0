pub mod MarkLaws
pub mod Spans
