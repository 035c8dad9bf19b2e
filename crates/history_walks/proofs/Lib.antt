-- The theorems of specs/Walks.antt.
pub mod Order
pub mod Told
