mod NumberWords
pub mod Given
mod Forms
pub mod Outputs
mod Streams
