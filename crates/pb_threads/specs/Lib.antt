pub mod Rooms
pub mod Slots
pub mod Together
pub mod Clocks
pub mod Wishes
