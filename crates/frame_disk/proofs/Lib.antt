pub mod SlotLaws
pub mod SectorRanges
pub mod FrameLaws
