pub mod Zero
pub mod Order
pub mod Powers
pub mod Fields
pub mod Units
pub mod Bits
