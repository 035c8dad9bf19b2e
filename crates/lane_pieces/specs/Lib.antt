pub mod Piece
pub mod Onward
pub mod Said
pub mod Promises
pub mod Cases
