pub mod Left
pub mod Nodes
pub mod Empty
pub mod Marked
pub mod Reading
pub mod Searching
pub mod Steps
pub mod Idle
