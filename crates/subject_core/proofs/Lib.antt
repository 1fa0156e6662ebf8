mod Examples
pub mod Steps
pub mod Options
pub mod Literals
pub mod Blobs
pub mod Marks
pub mod Removals
pub mod Rests
pub mod Fronts
pub mod Spacings
pub mod Parts
pub mod Loops
pub mod OneBase
pub mod LowerCase
pub mod Again
