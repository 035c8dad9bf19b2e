pub mod Vint
pub mod Promises
