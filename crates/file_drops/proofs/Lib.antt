pub mod NamedLaws
pub mod ExitLaws
pub mod MayLaws
pub mod FreeLaws
pub mod PlacesLaws
pub mod DropLaws
