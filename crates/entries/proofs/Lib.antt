-- `Laws`: of entries written and gone through. `Exact`: what is gone through is entries written. `Log`: of what a log
-- comes to. `Promises`: the value.
pub mod Laws
pub mod Exact
pub mod Log
pub mod Promises
