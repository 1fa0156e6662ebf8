pub mod Adopting
pub mod Faults
pub mod Lists
pub mod Ranks
pub mod Taking
pub mod Filed
pub mod Checking
