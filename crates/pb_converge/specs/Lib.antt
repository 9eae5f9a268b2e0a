pub mod Enough
pub mod Drives
pub mod Recurrence
pub mod Sweeps
pub mod Falls
pub mod Suggestions
pub mod Convergences
