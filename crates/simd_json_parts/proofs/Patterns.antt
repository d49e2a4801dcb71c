-- Patterns and their derivatives.
pub mod Sets
pub mod Bytes
