pub mod Commands
pub mod Dropped
pub mod Renamed
