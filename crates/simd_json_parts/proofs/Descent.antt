-- The turns of the descent: each leaves fewer tokens, so their bound is never met.
pub mod Shrinking
pub mod ArrayTurns
pub mod ObjectTurns
