pub mod MovedBytes
pub mod MovedHeld
