pub mod Links
pub mod Marks
pub mod Pairs
pub mod References
pub mod Tallies
