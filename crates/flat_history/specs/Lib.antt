pub mod Alike
pub mod Agreement
pub mod Cases
