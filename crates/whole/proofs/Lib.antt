-- The laws that belong to no one function; `pub` are those that crates above cite.
pub mod Choice
pub mod Signed
pub mod Rounding
pub mod Folds
pub mod Runs
pub mod Sums
pub mod Bounds
pub mod Refused
mod Determined
