pub mod SetsInPlace
pub mod Below
