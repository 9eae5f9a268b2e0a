pub mod Hops
pub mod Words
pub mod Marks
pub mod SvgHops
pub mod Pictures
