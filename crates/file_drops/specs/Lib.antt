pub mod Named
pub mod Exits
pub mod Freed
pub mod Drops
