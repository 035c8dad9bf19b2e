-- `Once`: one lookup decides two faults. `Marked`: the marks decide the overlap. `Turns`: the definitions in the shapes
-- that code meets.
pub mod Once
pub mod Marked
pub mod Turns
