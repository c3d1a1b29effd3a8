pub mod Paper
pub mod Limits
