pub mod FrontLaws
pub mod LineLaws
pub mod PrintedLaws
