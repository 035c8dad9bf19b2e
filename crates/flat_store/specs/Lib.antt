pub mod Calls
pub mod Said
pub mod History
pub mod Promises
pub mod Cases
