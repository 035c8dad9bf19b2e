-- `Places`: which block holds a byte. `Onward`: blocks on from one of them are the lane's own; a part of a lane needs
-- only the blocks in which it lies. `Loops`: what holds while the code's loops run. `Pieces`: a piece, case by case.
-- `Fair`: of every answer. `Readings`: a piece of good blocks is a part of the reading. `Promises`: the value of the
-- record in specs/.
pub mod Places
pub mod Onward
pub mod Loops
pub mod Pieces
pub mod Fair
pub mod Readings
pub mod Promises
