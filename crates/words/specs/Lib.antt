-- The questions: words, faults, the table.
pub mod Faults
pub mod Words
pub mod Questions
pub mod Replies
pub mod Inner
