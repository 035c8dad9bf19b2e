pub mod Wrap
pub mod LittleEndian
