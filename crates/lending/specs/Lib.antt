pub mod Lending
pub mod Cases
