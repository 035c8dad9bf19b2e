pub mod Signed
pub mod Cases
pub mod Promises
