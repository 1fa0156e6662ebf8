pub mod OnLiterals
pub mod UsageLaws
mod CommandLemmas
