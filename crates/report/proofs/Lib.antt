-- The laws of this crate.
pub mod Written
pub mod Reporting
pub mod Promises
