pub mod StreamLemmas
pub mod StreamLaws
pub mod StreamExamples
pub mod WindowLemmas
pub mod FindLemmas
pub mod FirstLemmas
pub mod KeptLemmas
