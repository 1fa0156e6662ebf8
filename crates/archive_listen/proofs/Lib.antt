pub mod ServingLemmas
pub mod ThroughLemmas
pub mod GatheringLemmas
pub mod WaitLemmas
pub mod GivenLemmas
