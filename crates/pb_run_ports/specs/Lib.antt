pub mod Deeds
pub mod Addresses
pub mod OpenFaults
pub mod Uses
pub mod Opened
