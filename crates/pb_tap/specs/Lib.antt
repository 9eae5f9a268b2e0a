pub mod Crossings
pub mod Takings
pub mod Taps
