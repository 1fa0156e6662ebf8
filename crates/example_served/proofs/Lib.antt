pub mod PublishLemmas
mod ServerLemmas
mod RestartLemmas
mod WorkedExamples
