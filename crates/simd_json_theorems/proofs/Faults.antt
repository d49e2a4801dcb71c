-- Faults are reported in time: `Root`. They are of the kinds that are named: `Kinds`.
mod Follows
mod ScalarFollows
mod RowFollows
mod NameFollows
mod Expectations
mod AtTokens
mod Containers
mod Descent
mod LastRead
pub mod Root
pub mod Kinds
