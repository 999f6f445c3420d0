pub mod SpanLaws
pub mod EndLaws
pub mod LogLaws
pub mod EmptyLaws
pub mod LogEnd
pub mod PlacesApart
