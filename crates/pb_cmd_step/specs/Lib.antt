pub mod Steps
pub mod Tests
pub mod Modes
pub mod Scripts
