pub mod Reading
pub mod Ones
