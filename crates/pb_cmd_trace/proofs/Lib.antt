pub mod WalkLemmas
pub mod StoryLemmas
pub mod StartLemmas
pub mod DoneLemmas
