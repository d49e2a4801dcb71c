-- The second stage: tokens become nodes.
pub mod Steps
pub mod Holding
pub mod Bounds
pub mod BuildingSteps
pub mod Rejecting
pub mod Following
pub mod BetweenBlocks
pub mod EscapesPassed
pub mod InputLaws
pub mod ScalarPut
pub mod StringPut
pub mod TextsInPlace
