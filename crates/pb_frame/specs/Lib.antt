pub mod Lists
pub mod Frames
pub mod Views
pub mod Tags
pub mod Admission
pub mod Stations
pub mod Hex
