pub mod PlanFiles
pub mod Refusals
pub mod ForestTexts
pub mod RecordTexts
