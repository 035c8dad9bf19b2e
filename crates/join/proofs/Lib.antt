-- The laws of this crate.
pub mod Laws
pub mod Fair
pub mod Promises
