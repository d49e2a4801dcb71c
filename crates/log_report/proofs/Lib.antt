pub mod Named
mod Begun
mod Counting
mod Cuts
pub mod Inputs
mod Orders
mod Places
mod Reported
mod Selectors
mod Shown
mod Written
