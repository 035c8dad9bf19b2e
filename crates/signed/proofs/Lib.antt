-- `Steps`: signed arithmetic of the machine, step by step. `Laws`: of the definitions of specs/, for the proofs here
-- and above. `Promises`: the value of the record in specs/Promises.
pub mod Steps
pub mod Laws
pub mod Promises
