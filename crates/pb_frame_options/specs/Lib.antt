pub mod Addresses
pub mod Tags
pub mod Frames
