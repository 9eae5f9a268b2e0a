pub mod ReportLemmas
pub mod NetworkLemmas
pub mod OpenedLemmas
pub mod TellingLemmas
pub mod TapLemmas
pub mod PipeLemmas
pub mod UnsentLemmas
pub mod CarriedLemmas
