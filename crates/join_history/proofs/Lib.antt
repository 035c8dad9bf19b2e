-- The laws of this crate.
pub mod Brought
pub mod Halves
