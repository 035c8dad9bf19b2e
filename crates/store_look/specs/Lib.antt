pub mod Said
pub mod Look
pub mod Cases
