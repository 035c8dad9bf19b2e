-- The theorems of specs/Promises.antt.
pub mod Joined
