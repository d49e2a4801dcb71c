-- What contracts see of a checker, and the scalars along its index.
pub mod Checkers
pub mod Scanned
pub mod Scalars
-- What the test of a whole input finds.
pub mod Whole
-- Where an input is wrong and why, for people.
pub mod Locations
pub mod Openings
pub mod Reasons
pub mod Messages
