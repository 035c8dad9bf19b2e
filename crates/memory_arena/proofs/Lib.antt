-- `Laws`: of the definitions of specs/, over the page size, for the proofs here and above.
pub mod Laws
