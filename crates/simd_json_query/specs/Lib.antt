pub mod Spans
pub mod Steps
pub mod Choices
pub mod Segments
pub mod Filters
pub mod Queries
