-- What bytes denote within the limits, is answered: `Answer`.
pub mod TokensHere
mod Scalars
mod Arrays
mod Objects
mod Documents
mod Concatenations
mod StringBytes
mod ClosedStrings
pub mod Utf8Documents
pub mod Answer
