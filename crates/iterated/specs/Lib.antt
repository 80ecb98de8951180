pub mod Iterated
pub mod Demand3
