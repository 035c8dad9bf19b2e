pub mod Log
pub mod Form
pub mod Promises
