pub mod Topologies
pub mod Services
pub mod PlanTexts
