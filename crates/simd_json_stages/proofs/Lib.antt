pub mod Exits
pub mod Scan
pub mod Machine
pub mod Tokens
pub mod Whole
