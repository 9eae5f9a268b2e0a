pub mod Facts
pub mod Paths
pub mod Keys
pub mod Scenes
