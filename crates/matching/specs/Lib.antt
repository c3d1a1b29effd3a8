pub mod Fill
pub mod Queues
pub mod Ranks
pub mod Asking
pub mod Answers
