pub mod Run
pub mod Feed
pub mod Said
pub mod Cut
pub mod Turn
pub mod Cases
pub mod Promises
