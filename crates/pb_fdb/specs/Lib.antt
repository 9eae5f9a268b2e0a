pub mod Tables
pub mod Entries
pub mod Laws
pub mod Journals
