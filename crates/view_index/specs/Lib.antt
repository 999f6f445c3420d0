pub mod Held
pub mod Security
pub mod Places
