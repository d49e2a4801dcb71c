-- Nodes of integers, listings, what is at the front of nodes, and the first of pairs.
pub mod Integers
pub mod Listing
pub mod Fronts
pub mod Members
