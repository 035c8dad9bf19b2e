-- `Found`: the calls by name, case by case. `Walked`: a lookup whose steps stand in a call's own code. `Fair`: the
-- numbers of every answer, and that a refusal changes nothing.
pub mod Found
pub mod Walked
pub mod Fair
