-- `Laws`: of the definitions of specs/, for the proofs here and above. `Forms`: each number has exactly one accepted
-- form. `Promises`: the value of the record in specs/Promises.
pub mod Laws
pub mod Forms
pub mod Promises
