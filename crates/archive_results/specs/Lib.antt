pub mod Access
pub mod Shown
pub mod Results
pub mod Index
pub mod Filed
pub mod Promise
