pub mod ChangedTwice
pub mod SetLaws
pub mod RootCut
pub mod HitPlace
pub mod RootTaken
pub mod TakeWhole
