-- Definitions of the test bench.
pub mod Benches
