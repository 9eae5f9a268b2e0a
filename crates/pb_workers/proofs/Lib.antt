pub mod UsedPorts
pub mod ReceiveLemmas
pub mod ChosenBefore
pub mod RoomLemmas
pub mod Recorded
pub mod PortLemmas
pub mod SettingLemmas
