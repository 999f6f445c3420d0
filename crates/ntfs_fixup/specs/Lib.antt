pub mod FixFault
pub mod Marks
