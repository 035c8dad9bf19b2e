-- `Laws`: of the definitions of specs/, for the proofs here and above. `Words`: words of a table, one by one. `Room`: a
-- record that is entered finds an empty bucket.
pub mod Laws
pub mod Words
pub mod Room
