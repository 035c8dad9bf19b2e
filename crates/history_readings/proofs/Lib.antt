-- `Joined`: what was accepted for a lane, as bytes. `Demand`: the theorem. `Worked`: the theorem on a worked history.
pub mod Joined
pub mod Demand
pub mod Worked
