pub mod Intake
pub mod Streaming
