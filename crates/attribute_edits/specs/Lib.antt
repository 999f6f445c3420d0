pub mod Attributes
pub mod Below
