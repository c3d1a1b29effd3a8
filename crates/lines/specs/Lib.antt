pub mod Lengths
pub mod Paper
pub mod Parts
pub mod Text
