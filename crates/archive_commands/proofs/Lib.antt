pub mod CarryLemmas
pub mod GetLemmas
