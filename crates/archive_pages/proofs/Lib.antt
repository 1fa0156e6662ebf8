pub mod ReplyExamples
mod HeadLemmas
mod LawLemmas
mod AccessLaws
mod PromiseLaws
pub mod ServingLemmas
mod KeptLemmas
mod HeadReading
mod UnroutedLemmas
mod DeskLemmas
mod PlaceLemmas
pub mod CauseLemmas
mod RouteLemmas
mod MboxLemmas
pub mod AnswerExamples
pub mod RunningLemmas
