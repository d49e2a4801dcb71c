pub mod Numbers
pub mod Padded
pub mod Clamped
pub mod Magnitudes
pub mod Meanings
