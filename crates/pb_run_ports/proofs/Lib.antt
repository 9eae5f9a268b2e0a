pub mod MoveLemmas
pub mod DeedLemmas
pub mod StopLemmas
