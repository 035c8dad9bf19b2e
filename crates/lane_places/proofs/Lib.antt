-- `PieceOn`: a piece from a place on, case by case. `Fair`: of every answer. `Own`: from a place of the lane's own it
-- is the piece by the count. `Promises`: the value of the record in specs/.
pub mod PieceOn
pub mod Fair
pub mod Own
pub mod Promises
