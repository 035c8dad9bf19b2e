-- `Lanes`: the walk over a list's blocks. `Fronts`: a reading's append. `Found`: reading back, test by test, and its
-- refusals. `Promises`: the value of the record in specs/Promises.
pub mod Lanes
pub mod Fronts
pub mod Found
pub mod Promises
