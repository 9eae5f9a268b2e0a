pub mod Faults
pub mod BadLines
pub mod Reasons
pub mod Words
