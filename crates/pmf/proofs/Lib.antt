pub mod Laws
pub mod Formed
pub mod Listing
pub mod Long
pub mod Theorems
pub mod Example
