pub mod Paper
pub mod Accepted
