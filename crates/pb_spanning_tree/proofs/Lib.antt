-- vectors that none of a bridge's paths betters
mod SolutionOrder
mod SolutionLaws
mod SolutionCosts
mod Orders
mod Facts
mod Offers
mod Converging
mod Taking
mod Solving
mod TreeRoles
mod TreeLinks
mod OneTree
mod SpanLaws
pub mod PlannedLaws
mod TreeCosts
mod AddressLaws
-- the states at the end of a record
mod RecordLawsCalls
mod RecordLawsSteps
pub mod RecordLaws
