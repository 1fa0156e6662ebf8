mod KeyExamples
pub mod KeyLemmas
mod MachineExamples
mod NameExamples
pub mod NameLemmas
pub mod RunLemmas
pub mod SoundLemmas
pub mod TokenLemmas
pub mod WordLemmas
pub mod OrderLemmas
pub mod FilingLemmas
pub mod ListedLemmas
mod DamageExamples
pub mod FirstLemmas
pub mod RepeatLemmas
pub mod LastingLemmas
mod LastingExamples
mod DecidingExamples
