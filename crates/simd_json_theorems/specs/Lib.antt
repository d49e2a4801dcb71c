-- What laws say of documents besides: which can be spelled, what their printed texts denote, and when their nodes are
-- equal.
pub mod Spellable
pub mod Normalized
pub mod NodeEquality
