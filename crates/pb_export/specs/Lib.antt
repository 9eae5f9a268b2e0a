pub mod Fitting
pub mod Rows
pub mod Documents
pub mod Heads
pub mod Tables
