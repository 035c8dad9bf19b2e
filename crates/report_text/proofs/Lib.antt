-- The laws of this crate.
pub mod Values
pub mod Laws
pub mod Words
pub mod Forms
pub mod Round
pub mod Exact
pub mod Promises
