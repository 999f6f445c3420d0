pub mod Given
pub mod PutFlags
pub mod HeldBits
pub mod Taken
