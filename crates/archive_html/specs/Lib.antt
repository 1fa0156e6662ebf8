pub mod Texts
pub mod Links
pub mod Rows
pub mod Pages
pub mod Laws
