pub mod ServiceLemmas
pub mod AdmissionLemmas
