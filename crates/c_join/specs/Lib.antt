pub mod Joined
pub mod Promises
