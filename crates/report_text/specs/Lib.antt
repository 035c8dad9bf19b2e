pub mod Text
pub mod Reader
pub mod Reportable
pub mod Values
pub mod Promises
pub mod Cases
