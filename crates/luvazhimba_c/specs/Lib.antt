pub mod Numbers
pub mod Bases
pub mod Ids
pub mod Places
pub mod Fields
pub mod Entries
pub mod Rows
