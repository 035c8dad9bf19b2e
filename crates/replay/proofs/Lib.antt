-- `Laws`: of scripts.
pub mod Laws
