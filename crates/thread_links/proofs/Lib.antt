mod Examples
pub mod Climbing
pub mod Linking
pub mod RankLemmas
pub mod PairLemmas
pub mod TableLemmas
pub mod NumberLemmas
pub mod IdLemmas
pub mod StepOneLemmas
pub mod NodeLemmas
pub mod JoinLemmas
