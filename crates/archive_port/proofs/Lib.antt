pub mod CauseLemmas
pub mod CrashLemmas
pub mod Joins
pub mod LastLemmas
pub mod RightLemmas
pub mod WantLemmas
