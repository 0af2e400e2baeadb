pub mod Chains
pub mod Runs
