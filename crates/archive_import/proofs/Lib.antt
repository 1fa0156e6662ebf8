pub mod IntakeLemmas
pub mod StopLemmas
pub mod ReadLemmas
pub mod WantLemmas
pub mod CrashLemmas
pub mod EndLemmas
pub mod TellLemmas
pub mod RepeatLemmas
