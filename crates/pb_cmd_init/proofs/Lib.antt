pub mod DistinctPorts
