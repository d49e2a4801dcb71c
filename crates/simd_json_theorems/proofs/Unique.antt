-- Bytes denote one document: `OneDocument`.
pub mod LeadingBytes
pub mod SpacedPrefixes
pub mod ScalarPrefixes
pub mod OneDocument
