pub mod HeaderLemmas
pub mod GrowthLemmas
pub mod FindingLemmas
pub mod DepartureLemmas
