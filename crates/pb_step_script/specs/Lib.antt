pub mod Verbs
pub mod Named
pub mod Lines
pub mod Answers
pub mod Counts
