pub mod Answered
pub mod Few
pub mod Mapped
