pub mod Adding
pub mod Entries
pub mod Deciding
pub mod Selecting
pub mod State
pub mod StateLaws
