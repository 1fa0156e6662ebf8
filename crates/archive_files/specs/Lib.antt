pub mod Unmade
pub mod Opening
pub mod Closing
pub mod Sparing
pub mod Leaving
pub mod Refusing
pub mod Reopening
pub mod Laws
