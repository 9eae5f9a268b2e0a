pub mod UnreadLemmas
pub mod HeadLemmas
pub mod PacingLemmas
