-- Structural positions, and the tokens at them.
pub mod Scan
pub mod Order
pub mod Boundaries
pub mod CleanInputs
pub mod TokensAtPositions
pub mod Between
pub mod ScannedInputs
