pub mod Decimal
mod Writes
