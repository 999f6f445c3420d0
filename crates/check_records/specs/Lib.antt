pub mod Refusals
pub mod Views
pub mod Streams
pub mod Reads
pub mod Listed
pub mod Decided
