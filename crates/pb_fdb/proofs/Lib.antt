pub mod EntryLemmas
pub mod LawLemmas
pub mod StationLemmas
pub mod SlotLemmas
pub mod LogLemmas
pub mod TurnLemmas
pub mod OrderLemmas
pub mod LearnLemmas
