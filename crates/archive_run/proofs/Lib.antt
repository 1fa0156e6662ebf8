pub mod WorkLemmas
pub mod OrderLemmas
pub mod HoldLemmas
pub mod CrashLemmas
pub mod OverLemmas
pub mod ReportLemmas
