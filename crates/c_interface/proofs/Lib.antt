pub mod Places
pub mod Tables
