pub mod Quiet
pub mod Owners
pub mod Rewritten
pub mod Clusters
