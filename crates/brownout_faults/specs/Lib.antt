pub mod Check
pub mod Said
pub mod Promises
pub mod Cases
