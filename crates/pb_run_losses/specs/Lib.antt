pub mod Losses
pub mod Drops
pub mod Unwritten
pub mod Strict
pub mod Transit
