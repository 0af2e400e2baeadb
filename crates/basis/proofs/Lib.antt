pub mod Rows
pub mod Taken
pub mod Chunks
pub mod Noughts
