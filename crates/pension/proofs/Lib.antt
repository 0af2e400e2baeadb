pub mod CapitalFit
pub mod DisabilityFit
