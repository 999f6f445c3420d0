pub mod Attributes
pub mod Extents
pub mod Groups
pub mod Lists
