pub mod Ranges
pub mod Frames
pub mod Framed
