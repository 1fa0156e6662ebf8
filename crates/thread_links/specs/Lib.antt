pub mod Containers
pub mod Links
pub mod Ranks
pub mod Nodes
pub mod Ids
pub mod Parts
