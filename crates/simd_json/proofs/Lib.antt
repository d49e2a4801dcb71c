pub mod Parses
pub mod Views
pub mod Walks
pub mod Keeping
