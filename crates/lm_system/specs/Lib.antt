pub mod System
pub mod Kinds
