pub mod Paper
pub mod Steps
pub mod Order
