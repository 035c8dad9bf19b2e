pub mod Going
pub mod Promises
