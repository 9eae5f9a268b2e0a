pub mod LeftOver
pub mod StripLemmas
pub mod LineLemmas
pub mod PlaceLaws
