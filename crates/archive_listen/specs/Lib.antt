pub mod Connections
pub mod Serving
pub mod Gathering
pub mod Streams
pub mod Waits
pub mod Asking
pub mod Sockets
pub mod Given
