-- A parse as a whole: memory, errors and what it returns.
pub mod ParseLaws
pub mod ParseEnds
pub mod ParseAnswers
pub mod Reservations
