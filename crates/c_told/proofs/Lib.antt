-- `Laws`: a call on the state that an area holds. `Seed`: an accepted append keeps the seed.
pub mod Laws
pub mod Seed
