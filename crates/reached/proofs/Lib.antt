-- The laws that belong to no one function; `pub` are those that crates above cite.
mod Windows
mod Judging
mod First
pub mod Seconds
pub mod Answers
mod Accepted
mod Threshold
mod Figures
mod Determined
mod RefusedKeeps
