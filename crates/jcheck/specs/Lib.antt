pub mod Asked
pub mod Colors
pub mod Endings
pub mod Excerpts
pub mod Failures
pub mod Reports
pub mod Writings
