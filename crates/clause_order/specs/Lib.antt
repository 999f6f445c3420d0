pub mod Clauses
pub mod Refusals
pub mod Views
