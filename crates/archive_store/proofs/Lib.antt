pub mod RankLemmas
pub mod StepEquations
pub mod RunLemmas
pub mod BatchLemmas
pub mod Joins
pub mod RightLemmas
mod JoinExamples
pub mod ReopenLemmas
pub mod WalkingLemmas
pub mod CheckLemmas
pub mod CrashLemmas
mod CrashExamples
mod AskLemmas
mod FindLemmas
pub mod StopLemmas
mod AdoptLemmas
pub mod CarryLemmas
pub mod StateLemmas
