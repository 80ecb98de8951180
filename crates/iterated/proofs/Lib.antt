pub mod Best
pub mod Laws
pub mod Run
pub mod Outcome
pub mod Sweeps
