mod Characters
mod Shown
mod Streams
mod Texts
mod Written
