pub mod Staged
pub mod Streams
pub mod Reached
pub mod Moving
pub mod Below
-- Words of the crates below, passed on to those above.
pub use Rattle.stored_bits.specs.Given
