pub mod Reopened
pub mod Stopped
