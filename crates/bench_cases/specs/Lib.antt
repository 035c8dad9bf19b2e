pub mod Bench
pub mod Sizes
