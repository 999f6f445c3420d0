pub mod ValueEdits
pub mod Below
-- Words of the crates below, passed on to those above.
pub use Rattle.stream_overwrites.specs.Marks
pub use Rattle.stream_overwrites.specs.Allowed
pub use Rattle.in_place_owed.specs.SetsInPlace
pub use Rattle.stream_overwrites.specs.Behind
pub use Rattle.stream_overwrites.specs.InPlace
pub use Rattle.stream_overwrites.specs.Unnamed
pub use Rattle.stream_overwrites.specs.Blank
pub use Rattle.stream_overwrites.specs.Steps
