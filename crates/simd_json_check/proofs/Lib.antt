pub mod Whole
pub mod Scans
pub mod Words
pub mod Enough
mod Along
mod Escaped
mod Places
