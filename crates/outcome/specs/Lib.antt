pub mod Outcome
pub mod Scratch
