pub mod MovedStreams
