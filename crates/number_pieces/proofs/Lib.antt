-- `Runs`: of runs over bytes. `Vints`: a run is the vint reader asked again and again. `Calls`: cut anywhere, the calls
-- come to the same. `Turns`: of the code. `Promises`: the value of the record in specs/Promises.
pub mod Runs
pub mod Vints
pub mod Calls
pub mod Turns
pub mod Promises
