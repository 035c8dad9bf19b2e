pub mod Join
pub mod Bring
pub mod Said
pub mod Promises
pub mod Cases
