pub mod StreamLaws
pub mod SectorLaws
pub mod ReplayLaws
