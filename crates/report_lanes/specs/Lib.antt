pub mod Lanes
pub mod Measure
