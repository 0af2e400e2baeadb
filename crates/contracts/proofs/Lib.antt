pub mod DisabilityFit
