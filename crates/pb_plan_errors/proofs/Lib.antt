pub mod Refusing
pub mod Listing
pub mod Sharing
