mod MovedLemmas
pub mod StrictLaws
pub mod StoreLemmas
