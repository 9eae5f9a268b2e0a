mod Lists
pub mod Values
mod Wiring
mod EndsThere
mod Gifts
mod Meeting
mod Lawful
mod Kept
mod SettledLemmas
mod FreshTaps
mod CaptureLemmas
