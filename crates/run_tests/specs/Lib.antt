pub mod Shelf
pub mod Taps
