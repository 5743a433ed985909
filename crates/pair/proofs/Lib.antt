-- The laws that belong to no one function; `pub` are those that crates above cite.
pub mod Singles
pub mod Pairs
pub mod Exactly
pub mod Accepted
mod Figures
mod Determined
mod RefusedKeeps
