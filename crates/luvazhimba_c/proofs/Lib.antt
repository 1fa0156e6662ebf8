mod Examples
pub mod BaseBounds
pub mod DateLemmas
pub mod FieldBounds
pub mod FieldLemmas
pub mod IdBounds
pub mod IdLemmas
pub mod PlaceLemmas
pub mod RowBounds
pub mod ThreadLemmas
