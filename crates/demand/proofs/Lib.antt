-- The theorems.
pub mod Demand
pub mod Reach
