pub mod Publishing
pub mod Restarting
