-- `Laws`: of a state's bytes in an area. `Back`: of an area's bytes in a state. `Promises`: the value of the record in
-- specs/Promises.
pub mod Laws
pub mod Back
pub mod Promises
