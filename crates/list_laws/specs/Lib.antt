pub mod SameItems
pub mod Replaces
pub mod Bits
pub mod Ordered
pub mod BitRanges
pub mod Least
pub mod Beside
