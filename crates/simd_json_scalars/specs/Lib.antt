-- What the readers of one scalar return. The contracts of what calls them cite it too.
pub mod NumberRead
pub mod NumeralRead
pub mod StringRead
pub mod StringContent
-- What serves proofs alone: only the crate's private clauses cite it.
pub mod DigitRuns
pub mod StringDecoded
