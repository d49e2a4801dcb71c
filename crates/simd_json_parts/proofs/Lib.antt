pub mod Tables
pub mod HexDigits
pub mod Utf8Writes
-- Lemmas on the definitions, for the crates above.
pub mod Lists
pub mod Patterns
pub mod Positions
pub mod Descent
pub mod Documents
pub mod Pointers
pub mod Pieces
