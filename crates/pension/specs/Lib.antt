pub mod Capital
pub mod Disability
