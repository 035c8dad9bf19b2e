pub mod Readings
pub mod Said
pub mod Promises
pub mod Cases
