pub mod Promises
pub mod Cases
