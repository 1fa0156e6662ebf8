pub mod DeviceExamples
pub mod DeviceLemmas
