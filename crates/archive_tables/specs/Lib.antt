pub mod Schema
pub mod Tables
pub mod Rows
pub mod Listed
pub mod Statements
pub mod Crashes
pub mod Calls
pub mod Making
