mod Literals
pub mod Sound
pub mod Complete
mod Containers
mod Unique
pub mod Faults
pub mod Documents
pub mod Printing
mod Examples
