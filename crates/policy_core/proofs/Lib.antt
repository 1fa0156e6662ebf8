pub mod OnTrees
mod FaultLemmas
mod FitsLemmas
mod ListLemmas
mod RuleLemmas
mod TreeLemmas
mod VerdictExamples
mod WrittenExamples
