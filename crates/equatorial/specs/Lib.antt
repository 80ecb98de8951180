pub mod Equatorial
