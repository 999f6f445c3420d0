mod FlagBits
mod BitsStream
mod WrittenBits
mod BitsStill
mod RunTimes
mod GivenBack
mod StoredStill
mod StreamFound
mod HoldsFound
mod HeldWrites
pub mod DeviceKept
mod HeldStill
mod GivenRuns
mod TakenHeld
pub mod FreeRuns
