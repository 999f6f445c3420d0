pub mod BareEdits
pub mod OpenedLaws
pub mod SealLaws
pub mod OneSealed
pub mod PatchLaws
