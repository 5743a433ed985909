-- The loss fee.
pub mod Loss
pub mod Accepted
