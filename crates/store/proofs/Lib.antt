-- `Kept`: an accepted call's state passes the check again. `Enters`: an accepted append of a new name has entered it.
-- `Promises`: the values of the records in specs/Promises.
pub mod Kept
pub mod Enters
pub mod Promises
