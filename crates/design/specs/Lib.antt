pub mod Design
pub mod Counted
pub mod Matrix
pub mod Sights
pub mod Calls
