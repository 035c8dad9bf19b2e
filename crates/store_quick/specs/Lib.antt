pub mod Quick
