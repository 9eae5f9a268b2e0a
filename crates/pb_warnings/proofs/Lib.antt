pub mod HopLemmas
pub mod RuleLemmas
pub mod FindingLemmas
