pub mod Clamps
pub mod DigitLists
pub mod Orders
pub mod Integers
