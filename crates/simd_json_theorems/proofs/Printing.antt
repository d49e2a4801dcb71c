-- What is printed denotes its document, with no sign on a zero, and is read again: `Again`.
mod Integers
mod Strings
mod Parts
pub mod Normalized
pub mod Alike
pub mod Texts
mod Lengths
pub mod Shortest
pub mod Again
