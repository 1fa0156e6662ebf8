pub mod HeadLemmas
pub mod SegmentLemmas
pub mod WalkLemmas
pub mod RouteCases
pub mod InsertLemmas
pub mod ParamLemmas
pub mod MatchLemmas
pub mod TargetLemmas
pub mod BearerLemmas
pub mod ReadingLemmas
mod HeadExamples
mod RouteExamples
mod RequestExamples
