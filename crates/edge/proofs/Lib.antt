-- `Laws`: of words told one behind the other.
pub mod Laws
