pub mod Readings
pub mod Run
pub mod Promises
pub mod Cases
