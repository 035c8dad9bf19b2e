-- The laws of this crate.
pub mod Calls
pub mod Pages
pub mod Sums
pub mod Lanes
pub mod Spent
pub mod Never
pub mod Costs
pub mod Lent
