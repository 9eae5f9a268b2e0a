pub mod CaretLemmas
pub mod PrintedLemmas
