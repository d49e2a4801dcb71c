-- The tokens at structural indexes.
pub mod TokenForms
pub mod Places
pub mod ScalarLaws
pub mod Booleans
pub mod StringEnds
