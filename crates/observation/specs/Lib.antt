pub mod Observation
pub mod Sheet
