pub mod Faults
pub mod Answers
pub mod Commands
pub mod Conversations
