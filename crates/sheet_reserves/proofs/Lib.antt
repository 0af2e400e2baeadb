pub mod Cells
pub mod Pages
