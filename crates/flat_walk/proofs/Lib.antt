-- `Turns`: of the counting loop. `Copy`: of the copying loop. `Joined`: what both come to is what the log comes to.
pub mod Turns
pub mod Copy
pub mod Joined
