pub mod Holdings
pub mod Hands
pub mod Losses
pub mod Lanes
