-- `Blocks`: laws of block lists. `Append`: what an append does to its own lane. `Moved`: to another. `Readings`: what
-- the calls tell of a lane. `Room`: what its blocks take. `Plan`: the dry run decides whether an append fits.
pub mod Blocks
pub mod Append
pub mod Moved
pub mod Readings
pub mod Room
pub mod Plan
