-- Equality of documents and of their nodes, accessors, and which documents can be spelled.
pub mod Equality
pub mod NodeEquality
pub mod Accessors
pub mod Spelling
