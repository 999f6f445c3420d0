pub mod KeptLaws
pub mod TextLaws
pub mod ByteLaws
pub mod Part
pub mod LineLaws
pub mod ReadingLaws
