pub mod Exits
pub mod Goes
pub mod Between
pub mod Wants
pub mod Gone
pub mod Left
pub mod Beside
