pub mod ListLemmas
pub mod JoinLemmas
pub mod GroupLemmas
pub mod DriveLemmas
pub mod StandingLemmas
