-- The location of an error.
pub mod StringScan
pub mod ByteBefore
pub mod Containers
