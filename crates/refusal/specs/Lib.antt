pub mod Refusal
pub mod Questions
