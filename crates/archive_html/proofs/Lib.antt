pub mod PageExamples
pub mod PieceLemmas
pub mod EscapeLemmas
pub mod LinkLemmas
pub mod RowLemmas
pub mod PageLemmas
mod RowTextLemmas
pub mod LawLemmas
pub mod TextLemmas
