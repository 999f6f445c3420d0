pub mod Fewest
pub mod TextBytes
pub mod JoinedRuns
pub mod ApartOnce
pub mod PutRuns
pub mod PutTexts
pub mod StoredTexts
pub mod TextLaws
