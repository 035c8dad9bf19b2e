pub mod State
pub mod Name
