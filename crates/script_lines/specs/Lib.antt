pub mod Text
pub mod Bytes
pub mod Coming
pub mod Reading
