-- `Words`: words of a table, one by one. `Walk`: a walk round the table, and counting. `Lookup`, `Enter`, `Grow` and
-- `Listing`: the theorems.
pub mod Words
pub mod Walk
pub mod Lookup
pub mod Enter
pub mod Grow
pub mod Listing
