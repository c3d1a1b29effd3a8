pub mod Back
pub mod Cards
pub mod Copy
pub mod Logs
pub mod Record
pub mod Outcomes
