pub mod Tests
pub mod Parts
pub mod Fills
pub mod Sums
pub mod Only
pub mod Combine
pub mod Partway
pub mod Concat
pub mod Passes
mod Folds
