pub mod Histories
pub mod Restarts
pub mod Sequences
pub mod Peers
