mod HistoryLemmas
mod PartLemmas
mod SentLemmas
mod RestartLemmas
mod SequenceLemmas
mod PeerLemmas
mod WorkedExamples
