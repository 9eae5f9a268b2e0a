pub mod Acceptances
