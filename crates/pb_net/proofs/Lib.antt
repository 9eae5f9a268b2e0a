pub mod Found
pub mod Lanes
pub mod OneMore
pub mod Meetings
pub mod Keeping
pub mod KnownSpots
pub mod Placing
pub mod PortMoves
pub mod LaneMoves
pub mod BridgeMoves
pub mod SpotLemmas
pub mod DueLemmas
pub mod Done
pub mod Records
pub mod StartLemmas
pub mod CopyLemmas
mod SettledLemmas
pub mod QuietLemmas
