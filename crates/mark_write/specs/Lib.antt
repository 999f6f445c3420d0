pub mod Flags
pub mod Logs
pub mod Finish
