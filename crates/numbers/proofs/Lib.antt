-- `Laws`: of the definitions of specs/. `Tests`: of the tests that definitions branch on. For the proofs here and
-- above.
pub mod Laws
pub mod Tests
