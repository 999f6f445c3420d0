pub mod KeptRecords
pub mod LeftAlone
pub mod ValueLeftAlone
pub mod SameBytes
pub mod BootStays
pub mod FlagStays
pub mod LogSpansStay
pub mod BitsKept
pub mod OnDisk
pub mod AgreesLaws
pub mod BehindLaws
pub mod Below
-- Laws of the crates below, passed on to those above.
pub use Rattle.value_owed.proofs.AllowedCommands
pub use Rattle.value_owed.proofs.FreshNumber
pub use Rattle.first_mark.proofs.PlacesApart
