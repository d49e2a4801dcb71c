-- JSON Pointers.
pub mod Pointed
pub mod Splitting
pub mod Keys
pub mod Indexes
pub mod Fronts
pub mod Stripping
pub mod Leading
