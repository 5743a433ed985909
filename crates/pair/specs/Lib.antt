-- A logger's pair.
pub mod Single
pub mod Pair
pub mod Accepted
