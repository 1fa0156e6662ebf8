pub mod Bytes
pub mod Calendar
pub mod Clock
pub mod Dates
pub mod Digits
pub mod Names
pub mod Texts
pub mod Zones
