pub mod ChiSquare
pub mod Trials
