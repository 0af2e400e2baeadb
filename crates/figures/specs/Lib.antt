pub mod Lives
pub mod Staying
pub mod StayingLaw
pub mod ThreeStates
pub mod TwoYears
