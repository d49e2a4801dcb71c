-- What values are: the document that begins at a structural index, and what is there by its token.
pub mod Viewed
pub mod Standing
pub mod Docs
pub mod Numerals
-- Where values end by brackets, and what is left of arrays and objects.
pub mod Closing
pub mod Written
pub mod Remaining
pub mod Within
-- Look-up by key.
pub mod Keys
pub mod WantedKey
pub mod Prepared
-- The lines of a stream.
pub mod Lines
-- Walks along arrays and objects, which tell their end from a place where they stop.
pub mod Unexpected
pub mod Walks
pub mod Walked
pub mod Iterated
pub mod IteratedMembers
pub mod Stopped
pub mod Sites
pub mod Reached
