-- The files of `crosspoint`'s specs.
pub mod Paper
pub mod Outcomes
