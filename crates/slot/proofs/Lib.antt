pub mod Refused
pub mod Accepted
mod Whole
