pub mod ShrunkRoot
pub mod Exits
