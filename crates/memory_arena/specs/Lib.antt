pub mod Address
pub mod Pages
pub mod Calls
