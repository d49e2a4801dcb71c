-- Elements and members one after another, as a cursor comes to them.
pub mod Reading
pub mod Arrays
pub mod Objects
