pub mod OrderLemmas
pub mod OrderExamples
