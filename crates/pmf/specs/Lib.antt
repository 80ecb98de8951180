pub mod File
pub mod Pmf
