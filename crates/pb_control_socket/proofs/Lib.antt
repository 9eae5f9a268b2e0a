pub mod BufferLemmas
pub mod LineTexts
pub mod PartLemmas
pub mod PlaceLemmas
pub mod RequestLemmas
