-- `Calls`: of appends and of what is held, case by case. `Finds`: of the code from the walk to the answers. `Kept`: of
-- histories. `Promises`: the three values.
pub mod Calls
pub mod Finds
pub mod Kept
pub mod Promises
