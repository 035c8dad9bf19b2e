pub mod Power
pub mod Buckets
pub mod Probe
pub mod Grow
