pub mod Sifting
pub mod Streams
pub mod Refusals
pub mod Running
pub mod Systems
