pub mod Pages
pub mod Keeping
pub mod Runs
pub mod Announced
