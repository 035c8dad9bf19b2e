-- `Promises`: the value of the record in specs/Promises.
pub mod Promises
