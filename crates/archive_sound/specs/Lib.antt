pub mod Causes
pub mod ManyCommands
pub mod Room
