pub mod MovedExtent
pub mod MovedPrepared
pub mod MovedStreams
pub mod MovedCount
pub mod MovedCalls
