-- Words of 64 bits, one bit at a time.
pub mod Computed
pub mod Operations
pub mod Combined
pub mod Lanes
pub mod Escapes
pub mod Prefix
pub mod Places
pub mod Writing
