pub mod Said
pub mod Append
pub mod Cases
