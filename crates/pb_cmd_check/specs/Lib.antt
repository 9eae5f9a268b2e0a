pub mod Checks
pub mod Converged
pub mod Shows
