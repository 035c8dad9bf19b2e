-- `Faults`: a bucket's faults and the verdict, clause by clause. `Where`: in which bucket a lookup ends, on any memory.
-- `Never`: what is called sound answers 4 to nothing. `Promises`: the value of the record in specs/Promises.
pub mod Faults
pub mod Where
pub mod Never
pub mod Promises
