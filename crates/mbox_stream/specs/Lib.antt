pub mod Stream
pub mod Window
pub mod Found
pub mod Kept
pub mod Held
pub mod Cutter
