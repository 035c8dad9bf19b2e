-- `Whole`: what the whole-state check says. `Guard`: the guard of names.
pub mod Whole
pub mod Guard
