-- The theorem of specs/Promises.antt.
pub mod Places
