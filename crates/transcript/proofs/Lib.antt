-- The theorems about the program `desk`.
mod Samples
pub mod Cutting
mod Places
pub mod Growing
pub mod Written
pub mod Separators
pub mod Replying
pub mod Printing
pub mod Posting
