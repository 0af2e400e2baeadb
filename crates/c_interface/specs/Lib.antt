pub mod Columns
pub mod Outcomes
pub mod SheetOutcomes
