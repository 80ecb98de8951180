pub mod Fits
pub mod Point
pub mod Scratch
pub mod Term
