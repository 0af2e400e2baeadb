pub mod Disability
pub mod Sums
