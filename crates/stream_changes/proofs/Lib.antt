pub mod DeviceLaws
pub mod GivingLaws
mod EditKept
pub mod Changed
pub mod ValueChanged
pub mod ResizableRoom
mod CutPart
mod ExtendedPart
pub mod ExtentLaws
mod ExtentCovers
mod ExtentDone
pub mod OwnRuns
pub mod ReachLaws
pub mod RunsReached
pub mod BehindVolume
mod Lengthened
mod Reached
mod MovedPart
mod ValueBytes
mod LeftRecord
mod Moved
mod MovedCalls
mod MoveFound
mod WaysFound
mod WaysDone
mod WaysWritten
mod ExtentChanged
pub mod Below
-- Laws of the crates below, passed on to those above.
pub use Rattle.stored_bits.proofs.DeviceKept
