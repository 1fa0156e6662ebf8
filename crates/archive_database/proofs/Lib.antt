pub mod MakingLemmas
pub mod RankLemmas
pub mod ReadingLemmas
pub mod TakingLemmas
mod CauseLemmas
mod StepsLemmas
