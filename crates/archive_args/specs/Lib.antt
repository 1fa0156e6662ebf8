pub mod Program
pub mod Values
pub mod Orders
