-- `Laws`: of the definition of specs/, for the proofs here and above.
pub mod Laws
