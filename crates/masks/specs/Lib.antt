pub mod Paper
pub mod Tests
pub mod Sum
pub mod Ports
