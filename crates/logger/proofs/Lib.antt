-- The laws that belong to no one function; `pub` are those that crates above cite.
pub mod Seconds
pub mod Imports
pub mod Accepted
mod Determined
mod RefusedKeeps
