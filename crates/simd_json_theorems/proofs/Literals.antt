-- Literals of numbers and strings by themselves.
pub mod LeadingZeros
pub mod Escapes
pub mod Quotes
