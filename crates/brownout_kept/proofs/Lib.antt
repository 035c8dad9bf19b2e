-- `Chain`: what an append leaves of a list whose blocks lie in any order. `Packed`: there are not many of them.
-- `Indexed`: its blocks by their index. `Beside`: what an append leaves of another list. `Fine`: a memory that lies
-- well has no fault. `Found`: one without fault lies well. `Grown`, `Records`: what an append leaves of table and
-- records. `Took`: it leaves a memory that lies well. `Kept`: so what is called sound stays sound, the value of the
-- record in specs/Promises.
pub mod Chain
pub mod Packed
pub mod Indexed
pub mod Beside
pub mod Fine
pub mod Found
pub mod Grown
pub mod Records
pub mod Took
pub mod Kept
