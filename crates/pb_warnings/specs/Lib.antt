pub mod Links
pub mod Hops
pub mod Marks
pub mod Rules
pub mod Findings
