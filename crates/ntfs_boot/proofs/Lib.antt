pub mod FitLaws
pub mod SizeLaws
