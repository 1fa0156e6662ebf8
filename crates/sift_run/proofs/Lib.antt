pub mod RunLemmas
pub mod ResultLemmas
pub mod SiftLemmas
pub mod SiftExamples
pub mod StatusLemmas
pub mod TellLemmas
