pub mod Outcome
pub mod Paper
pub mod Printed
pub mod Room
