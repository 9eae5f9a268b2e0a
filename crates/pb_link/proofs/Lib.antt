pub mod HandLemmas
pub mod PlaceLemmas
pub mod LossLemmas
pub mod LaneLemmas
