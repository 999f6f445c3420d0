pub mod HeldViewIndex
pub mod IdLaws
pub mod PlaceLaws
pub mod SoundLaws
