-- The theorems.
pub mod ByValue
pub mod Transcript
pub mod Demand
pub mod Contracts
pub mod Earlier
