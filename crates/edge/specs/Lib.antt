pub mod Fronts
pub mod Noted
pub mod ScriptLines
pub mod Watched
