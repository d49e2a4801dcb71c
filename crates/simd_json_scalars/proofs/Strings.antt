-- String literals, and their reader.
pub mod Pieces
pub mod EscapeTable
pub mod Standalone
pub mod Content
pub mod CodeUnits
pub mod Steps
pub mod Decoding
pub mod MovedRuns
pub mod Plain
pub mod Reader
