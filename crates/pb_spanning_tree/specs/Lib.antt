pub mod TreeOf
pub mod Solutions
pub mod Walks
pub mod Laws
pub mod Planned
pub mod TreeVectors
pub mod Records
