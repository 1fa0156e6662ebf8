pub mod Separator
pub mod Division
pub mod Written
pub mod Senders
