pub mod Sites
pub mod Statements
pub mod Lines
pub mod Marks
pub mod Excerpts
pub mod Texts
pub mod Nearest
pub mod PrintedLines
