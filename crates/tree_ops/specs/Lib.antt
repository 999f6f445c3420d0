pub mod Wanted
pub mod Tables
pub mod Edits
pub mod Volumes
pub mod Runs
pub mod Serves
pub mod Replies
pub mod Below
