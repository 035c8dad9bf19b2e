pub mod History
pub mod Due
pub mod Numbers
pub mod Promises
pub mod Sound
pub mod Frames
pub mod Demand
pub mod Cases
