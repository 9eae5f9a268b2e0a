pub mod Lines
pub mod Stripping
pub mod Places
pub mod Spots
