pub mod Area
pub mod Promises
