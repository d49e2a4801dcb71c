pub mod Failures
pub mod Lines
pub mod Output
pub mod Pieces
pub mod Runs
pub mod Settings
pub mod Streams
