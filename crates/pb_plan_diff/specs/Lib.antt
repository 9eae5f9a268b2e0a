pub mod Parts
pub mod Differences
