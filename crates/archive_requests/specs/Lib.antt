pub mod Heads
pub mod Bearer
pub mod Requests
pub mod Routes
pub mod Asked
pub mod Reading
pub mod Routing
