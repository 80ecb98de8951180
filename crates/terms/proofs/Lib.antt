pub mod First
pub mod Fixed
pub mod Slots
pub mod Digits
pub mod Chunks
pub mod Same
pub mod Readings
pub mod PierFlag
