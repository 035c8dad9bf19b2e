pub mod Report
pub mod Write
pub mod Said
pub mod Promises
pub mod Cases
