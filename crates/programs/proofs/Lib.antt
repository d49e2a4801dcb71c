pub mod Begins
pub mod Calls
pub mod Cuts
pub mod Folds
pub mod Kept
pub mod Pieces
pub mod Reading
pub mod Turns
