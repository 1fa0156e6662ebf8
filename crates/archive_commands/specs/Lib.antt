pub mod Commands
pub mod Getting
pub mod Working
