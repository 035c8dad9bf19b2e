-- `Growth`: what growing a table asks. `Cases`: the append, case by case. `Carried`: what an append's lookup hands on.
-- `Fair`: a refusal changes nothing, and its number is one that the papers list for the call.
pub mod Growth
pub mod Cases
pub mod Fair
pub mod Carried
