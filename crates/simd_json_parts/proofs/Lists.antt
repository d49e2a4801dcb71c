-- Lists.
pub mod Drops
pub mod Moves
pub mod LaneRuns
pub mod Parity
pub mod Prefixes
