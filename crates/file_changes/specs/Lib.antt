pub mod Duplicated
pub mod Links
pub mod Over
pub mod Staged
pub mod Values
