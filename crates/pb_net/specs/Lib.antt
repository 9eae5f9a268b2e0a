pub mod Faults
pub mod Answers
pub mod Dues
pub mod Moves
pub mod Lists
pub mod Slots
pub mod Nets
pub mod Starts
