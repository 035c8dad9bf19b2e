-- `Kept`: what a join keeps of the first store. `Promises`: the value of the record in specs/Promises.
pub mod Kept
pub mod Promises
