-- Values, iterators, comparisons and printed text.
pub mod Listed
pub mod Split
pub mod Descending
pub mod Containers
pub mod Beneath
pub mod Compared
pub mod MapCompared
pub mod Printable
pub mod Encoded
pub mod Ends
pub mod Leading
