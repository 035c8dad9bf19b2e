pub mod Shift
pub mod Promises
