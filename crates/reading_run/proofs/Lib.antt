-- `Split`: bytes split into vints, and what is asked of the vint reader. `Back`: readings written read back. `Spread`:
-- byte by byte as by the reader. `Turns`, `Came`: the code's run, and what it comes to. `Promises`: the value of the
-- record in specs/Promises.
pub mod Split
pub mod Back
pub mod Spread
pub mod Turns
pub mod Came
pub mod Promises
