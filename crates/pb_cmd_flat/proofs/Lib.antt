pub mod WordLemmas
pub mod RunLemmas
pub mod HexTexts
pub mod FlatPlanLaws
pub mod StepLengths
pub mod AdmitLaws
pub mod DrainLaws
pub mod HandleLaws
