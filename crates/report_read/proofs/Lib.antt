-- The laws of this crate.
pub mod Lines
pub mod Seen
pub mod LineKinds
pub mod Counted
pub mod Noting
pub mod Checking
pub mod Picking
pub mod Unhexing
pub mod Promises
