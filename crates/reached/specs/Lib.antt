-- Whether an hour reached a threshold.
pub mod Reached
pub mod Accepted
