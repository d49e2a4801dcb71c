-- Number literals, and their reader.
pub mod Literals
pub mod Prefixes
pub mod Steps
pub mod Values
pub mod Reader
pub mod DigitRuns
pub mod DigitWords
pub mod DigitsWorth
pub mod Looks
