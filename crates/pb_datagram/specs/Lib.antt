pub mod Vxlan
pub mod Datagrams
pub mod Devices
pub mod Counts
pub mod Receiving
pub mod Sending
pub mod Laws
