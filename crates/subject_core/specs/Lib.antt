pub mod Spaces
pub mod Pieces
pub mod Removal
pub mod BaseSubject
pub mod Front
