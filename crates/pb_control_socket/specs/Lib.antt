pub mod Sizes
pub mod Parts
pub mod Requests
pub mod Texts
pub mod Answers
pub mod Lines
pub mod Sockets
