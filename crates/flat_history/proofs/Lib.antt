-- `Agree`: the two stores are the same record.
pub mod Agree
