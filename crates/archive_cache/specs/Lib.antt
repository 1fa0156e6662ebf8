pub mod Parts
pub mod ListIndexes
pub mod Keyed
pub mod Threaded
pub mod Views
pub mod Coherence
pub mod Sending
