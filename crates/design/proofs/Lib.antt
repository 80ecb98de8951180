pub mod Rows
pub mod Stars
pub mod Terms
pub mod Indices
pub mod Runs
pub mod Matrix
pub mod Lists
