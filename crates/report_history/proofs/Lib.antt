-- The laws of this crate.
pub mod Bytes
pub mod Names
pub mod Demand
