mod LeftAlone
mod GoneLink
mod FileGone
mod GoneWritten
pub mod Leaves
