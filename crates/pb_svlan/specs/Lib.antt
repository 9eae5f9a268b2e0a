pub mod ServiceTables
pub mod Entering
pub mod Reserving
