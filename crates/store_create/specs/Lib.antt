pub mod Said
pub mod Create
pub mod Cases
