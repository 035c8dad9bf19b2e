-- The theorems are in `Demand`, and what they say in specs/Demand.antt. Below it, bottom up:
-- `Log`: histories one behind the other. `Records`: a record in the key pages. `Grown`: the table before a name is
-- entered. `Words`: which words a growing table writes. `Apart`: lists that share no place. `Spans`: blocks by their
-- index. `Kept`: an accepted append leaves a sound store. `Answers`: what a sound store answers to an append. `Born`:
-- creation leaves a sound store. `Told`: a history, call by call. `Shape`: a lane's length settles its header's
-- numbers. `Readings`, `Listed`: what the calls that change nothing answer. `Stays`: a block stays where it is.
-- `Numbers`: each call's refusal number. `Differs`: from what stays to where a byte that differs lies. `Frames`: what
-- an accepted append leaves alone. `Worked`: the theorem on a worked history.
pub mod Log
pub mod Records
pub mod Grown
pub mod Words
pub mod Apart
pub mod Spans
pub mod Kept
pub mod Answers
pub mod Born
pub mod Told
pub mod Shape
pub mod Readings
pub mod Stays
pub mod Listed
pub mod Numbers
pub mod Differs
pub mod Frames
pub mod Demand
pub mod Worked
