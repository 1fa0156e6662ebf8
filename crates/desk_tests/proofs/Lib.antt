pub mod ChainLemmas
mod ChainExamples
