-- `Laws`: of the definitions of specs/ and of copies in parts, for the proofs here and above.
pub mod Laws
