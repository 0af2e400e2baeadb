pub mod LivesFit
pub mod SheetLines
pub mod ThreeStatesFit
