pub mod PieceOn
pub mod Promises
pub mod Cases
