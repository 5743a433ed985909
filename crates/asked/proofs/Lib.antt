-- The laws that belong to no one function; `pub` are those that crates above cite.
pub mod Sizes
pub mod Reading
mod Determined
mod RefusedKeeps
