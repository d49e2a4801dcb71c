-- What the public contracts of the first stage rest on: the blocks that it lists, and what it returns where memory is short.
pub mod EscapeBlocks
pub mod Scans
pub mod Capacities
-- What the second stage's rests on.
pub mod NodesEnough
-- What serves the proofs of the first stage alone: only the crate's private clauses cite it.
pub mod Carries
pub mod Words
pub mod Classes
pub mod Blocks
pub mod BlockScans
pub mod Groups
pub mod Stored
-- The second stage.
pub mod Inputs
pub mod EscapesAhead
pub mod ReadsLater
pub mod Placed
pub mod Continued
pub mod Building
pub mod Progresses
pub mod Members
pub mod Put
pub mod Rejections
