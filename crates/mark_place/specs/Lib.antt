pub mod Beside
pub mod Flags
pub mod LogSpans
