pub mod Moved
pub mod Stores
