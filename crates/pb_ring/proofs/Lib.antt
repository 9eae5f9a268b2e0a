pub mod Places
pub mod Popped
