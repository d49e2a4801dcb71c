pub mod Texts
pub mod Layout
pub mod Frames
pub mod Unescaped
