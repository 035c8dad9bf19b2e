-- `Sound`: a store with a history lies as brownout_kept's `Laid` says, so it has no fault, and so the theorem.
pub mod Sound
