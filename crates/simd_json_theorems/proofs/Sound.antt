-- What is answered, the bytes denote: `answer-sound` of `Answer`.
pub mod SpelledTokens
pub mod FaultsWithin
pub mod ScalarFaults
mod Scalars
mod Escapes
mod Strings
pub mod LongestPieces
mod StringsInPlace
mod Tokens
pub mod TokensInPlace
mod Containers
mod Descent
pub mod Answer
